pub mod Rooms
pub mod Running
pub mod Times
