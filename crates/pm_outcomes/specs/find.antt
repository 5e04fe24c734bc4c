pub mod Had
pub mod Seen
