pub mod ends
pub mod find
pub mod picture
pub mod orders
pub mod order
pub mod others
