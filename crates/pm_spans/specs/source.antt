pub mod Places
pub mod Lines
pub mod Visible
pub mod Excerpts
