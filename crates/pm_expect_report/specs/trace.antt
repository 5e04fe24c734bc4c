pub mod Items
pub mod Plain
pub mod Checks
