pub mod AgreeLemmas
pub mod CloseLemmas
