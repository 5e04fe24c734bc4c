pub mod Deciding
pub mod Lists
