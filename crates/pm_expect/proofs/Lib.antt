pub mod SameLemmas
pub mod RowLemmas
pub mod ItemLemmas
pub mod FewLemmas
