pub mod RowLemmas
pub mod PlanLemmas
pub mod ChainLemmas
