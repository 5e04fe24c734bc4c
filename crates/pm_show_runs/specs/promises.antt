pub mod Shown
pub mod Broken
pub mod Pieces
pub mod BadTexts
pub mod ThreeIslands
pub mod WrongLines
