pub mod Lists
pub mod Putting
pub mod TreeLemmas
pub mod Leading
pub mod Reaching
