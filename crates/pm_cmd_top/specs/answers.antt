pub mod Audited
pub mod Complete
pub mod Page
pub mod Once
