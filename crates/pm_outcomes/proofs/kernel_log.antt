pub mod PrefixLemmas
pub mod SplitLemmas
pub mod ReadLemmas
pub mod SubjectLemmas
