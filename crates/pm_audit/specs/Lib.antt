pub mod Readings
pub mod Following
pub mod Auditing
pub mod Loading
pub mod Offers
