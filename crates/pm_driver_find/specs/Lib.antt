pub mod Ahead
pub mod Ends
pub mod Following
pub mod Leftovers
pub mod Sights
pub mod Suspects
pub mod Told
