pub mod Inspected
pub mod dependencies
