pub mod Times
pub mod Kept
pub mod Account
pub mod AllKept
pub mod Texts
