pub mod Shown
pub mod Firsts
pub mod Order
pub mod Listing
pub mod Ranks
