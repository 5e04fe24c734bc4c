pub mod refused
pub mod trace
pub mod broken
pub mod orders
