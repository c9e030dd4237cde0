-- The definitions that the contracts of this crate cite.
pub mod BrokerLine
pub mod EventLine
pub mod Gathered
pub mod Lines
pub mod Listed
pub mod Number
pub mod Printed
pub mod Words
