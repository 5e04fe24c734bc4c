pub mod Invariant
pub mod counts
pub mod stacks
pub mod bounds
pub mod safe
pub mod turns
pub mod gets
pub mod islands
