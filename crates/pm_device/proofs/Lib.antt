pub mod ChildLemmas
pub mod FillLemmas
pub mod PlanLemmas
pub mod PendingLemmas
pub mod FreshLemmas
pub mod FreeLemmas
