pub mod Standing
pub mod Turns
pub mod Found
pub mod Poses
pub mod Witness
