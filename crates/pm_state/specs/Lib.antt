pub mod Places
pub mod Standing
pub mod Turns
pub mod Chains
pub mod Piles
pub mod Seats
