pub mod Lines
pub mod Looking
pub mod Values
pub mod Within
