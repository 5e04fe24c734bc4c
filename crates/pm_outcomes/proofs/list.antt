mod FirstLemmas
pub mod ObservationAlike
mod OrderLemmas
mod ListingLemmas
