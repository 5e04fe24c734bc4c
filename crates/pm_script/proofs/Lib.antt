pub mod WordLemmas
pub mod HelperLemmas
pub mod PlanLemmas
pub mod PlaceLemmas
