pub mod RequestLemmas
pub mod SplitLemmas
pub mod EndLemmas
pub mod OutputLemmas
pub mod ReadLemmas
pub mod Writing
pub mod CalmLemmas
