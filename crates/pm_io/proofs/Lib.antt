pub mod Rose
mod Shelves
pub mod Taken
pub mod Unread
