pub mod Gates
pub mod Readings
