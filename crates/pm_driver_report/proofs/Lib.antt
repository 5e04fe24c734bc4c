pub mod PassLemmas
pub mod RuleLemmas
pub mod ReportLemmas
pub mod FollowLemmas
pub mod WitnessedLemmas
