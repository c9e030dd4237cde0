pub mod Carrying
pub mod StepLemmas
pub mod Beginning
mod Bags
mod Hands
mod UnderWay
mod Orderly
mod Times
mod Keeping
mod Knowing
mod Inodes
mod Worked
mod Entering
mod Placed
mod Answering
mod Forgetting
mod Daemons
mod Runs
mod Moving
mod Issuing
mod Taking
mod Working
mod Crashing
mod Turns
mod Handing
mod Once
mod Pieces
mod Standing
mod Claims
mod HandingTalks
mod HandingOn
mod Talks
mod Claiming
mod Accepting
mod Awaiting
mod AwaitingPosts
mod Attending
mod AttendingWork
mod AttendingSeat
mod AttendingTalks
mod AttendingOn
mod Refusing
mod Coming
mod Events
pub mod Listings
pub mod ReadAnswers
pub mod InTurn
pub mod WholeRun
mod Journals
pub mod LawProofs
