pub mod Faults
pub mod Few
pub mod TooMany
pub mod Names
pub mod Apart
pub mod Rows
pub mod Orders
pub mod Numbers
