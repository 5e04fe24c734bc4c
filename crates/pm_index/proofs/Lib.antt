pub mod MarkLemmas
pub mod WordLemmas
pub mod PlaceLemmas
pub mod TreeLemmas
pub mod TallyLemmas
