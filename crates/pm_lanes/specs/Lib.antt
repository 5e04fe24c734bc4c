pub mod Lanes
pub mod Pieces
pub mod Showing
pub mod calls
