pub mod PlaceLemmas
pub mod RoundLemmas
pub mod QueueLemmas
pub mod WakeLemmas
pub mod IndexLemmas
pub mod AfterLemmas
pub mod SettleLemmas
