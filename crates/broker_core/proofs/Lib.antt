pub mod Accepted
mod AskedLaws
mod Consistency
mod GapLaws
pub mod HeldLaws
pub mod LaterLaws
mod Moves
mod PlaceLaws
mod Queues
mod RisingLaws
pub mod SeatLaws
mod TreeLaws
pub mod TakeLaws
pub mod SeatFaults
