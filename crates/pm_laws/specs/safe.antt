pub mod Parts
pub mod Needs
pub mod Kinds
pub mod LineKind
pub mod Pends
pub mod Supplied
pub mod Running
pub mod Bonds
