pub mod Plain
pub mod Events
