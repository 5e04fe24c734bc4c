pub mod Order
pub mod Hints
