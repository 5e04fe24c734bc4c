pub mod WholeLemmas
pub mod ComingLemmas
