pub mod Lacks
pub mod Uses
pub mod Watching
