pub mod OpenGets
pub mod Reasons
pub mod Kept
pub mod Texts
