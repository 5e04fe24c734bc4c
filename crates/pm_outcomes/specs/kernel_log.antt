pub mod Lines
pub mod Tells
pub mod Runs
pub mod Rest
pub mod Placing
