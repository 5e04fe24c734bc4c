pub mod Breaches
pub mod Found
