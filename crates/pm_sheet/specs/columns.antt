pub mod Axis
