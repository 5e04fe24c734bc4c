pub mod Reached
pub mod Exact
pub mod Seen
pub mod Trees
pub mod Growing
