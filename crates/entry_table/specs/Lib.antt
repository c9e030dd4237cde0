pub mod Entries
pub mod EntryPlaces
pub mod Inside
pub mod Slots
pub mod Standing
pub mod Table
