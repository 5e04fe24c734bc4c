pub mod JudgeLemmas
pub mod TextLemmas
