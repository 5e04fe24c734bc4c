pub mod SayLemmas
pub mod WarnedLemmas
