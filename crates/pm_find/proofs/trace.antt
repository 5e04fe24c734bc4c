pub mod PlaceLemmas
pub mod TellLemmas
