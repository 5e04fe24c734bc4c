pub mod Gives
pub mod Kinds
pub mod Pieces
pub mod Reading
pub mod Texts
