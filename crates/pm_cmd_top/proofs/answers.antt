pub mod PlanStatuses
pub mod TraceStatuses
pub mod AskedStatuses
pub mod FileCases
pub mod AuditLemmas
pub mod PageLemmas
pub mod OnceLemmas
