pub mod Drawing
pub mod Picture
