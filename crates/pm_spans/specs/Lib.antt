pub mod source
pub mod keys
