pub mod InTurn
pub mod Names
pub mod RowLemmas
pub mod Scripts
pub mod Law
