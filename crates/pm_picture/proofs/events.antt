pub mod PlainLemmas
pub mod TimelineLemmas
