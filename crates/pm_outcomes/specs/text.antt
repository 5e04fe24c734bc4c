pub mod Texts
pub mod Reached
pub mod Seen
pub mod Absent
