pub mod Sought
pub mod Missing
pub mod Listed
