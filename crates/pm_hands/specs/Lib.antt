pub mod Turning
pub mod Ways
