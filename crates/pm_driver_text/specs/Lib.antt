pub mod Results
pub mod Names
pub mod Verbs
pub mod Exits
pub mod Whats
pub mod Steps
