pub mod Quiet
pub mod Knowing
pub mod Seating
pub mod HearingKeeps
pub mod Keeping
pub mod Telling
pub mod Lending
pub mod HandoverLaws
