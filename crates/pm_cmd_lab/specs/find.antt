pub mod Find
pub mod Check
pub mod Driver
