-- The definitions, in the order in which to read them.
pub mod Refusals
pub mod Words
pub mod Straight
pub mod Managed
pub mod Core
pub mod Written
pub mod Keys
pub mod Programs
pub mod After
pub mod Fails
pub mod Plans
pub mod Drivers
