mod Leaving
mod OutLaws
mod Rows
mod SeatLaws
mod SessionLaws
mod Steps
mod VersionLaws
