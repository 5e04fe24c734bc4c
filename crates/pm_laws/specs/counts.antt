pub mod Sums
pub mod Owners
pub mod Counts
pub mod Sizes
