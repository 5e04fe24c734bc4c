pub mod Words
pub mod Tells
