pub mod OwnLines
pub mod Numbering
pub mod Looking
