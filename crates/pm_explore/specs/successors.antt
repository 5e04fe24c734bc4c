pub mod Lines
pub mod Moments
pub mod Standing
