pub mod Agreeing
pub mod Closing
pub mod Desks
pub mod Returns
pub mod Slips
