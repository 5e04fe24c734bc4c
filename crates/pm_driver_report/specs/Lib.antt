pub mod Rules
pub mod Passes
pub mod Lines
pub mod Texts
pub mod Report
pub mod Follows
pub mod Witnessed
