pub mod EndLemmas
pub mod ReadLemmas
pub mod WriteLemmas
