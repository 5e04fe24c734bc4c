pub mod Domains
pub mod Walk
