pub mod TableLemmas
pub mod Places
pub mod PlanNames
