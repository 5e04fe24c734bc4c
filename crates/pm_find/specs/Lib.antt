pub mod findings
pub mod text
pub mod trace
