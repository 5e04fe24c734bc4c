pub mod Escape
pub mod Shapes
