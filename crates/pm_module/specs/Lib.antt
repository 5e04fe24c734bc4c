pub mod Rows
pub mod Module
