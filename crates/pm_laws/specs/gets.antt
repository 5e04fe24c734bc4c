pub mod Answered
pub mod Undisturbed
pub mod Alone
