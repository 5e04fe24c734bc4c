pub mod CommaLemmas
pub mod ClosedLemmas
pub mod FitLemmas
pub mod WayLemmas
