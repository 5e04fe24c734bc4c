pub mod Lines
pub mod Spelled
pub mod Newlines
pub mod Taking
pub mod Telling
pub mod Following
