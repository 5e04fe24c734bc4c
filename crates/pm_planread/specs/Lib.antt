pub mod WhyWords
pub mod Messages
pub mod Faults
pub mod Scripts
pub mod Named
pub mod PlanOf
pub mod tree
pub mod rows
