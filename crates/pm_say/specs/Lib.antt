pub mod Counts
pub mod Warned
pub mod Faults
pub mod Says
pub mod lints
pub mod lint_text
