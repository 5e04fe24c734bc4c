pub mod FirstLemmas
pub mod MarkLemmas
pub mod OrderLemmas
pub mod PairLemmas
pub mod SearchLemmas
