pub mod Links
pub mod LinkOrder
pub mod Marked
pub mod Wanted
