pub mod Children
pub mod Filling
pub mod Giving
pub mod Parts
