pub mod EscapeLemmas
pub mod DrawLemmas
