pub mod Showing
pub mod Order
pub mod Work
pub mod Failing
pub mod Finding
