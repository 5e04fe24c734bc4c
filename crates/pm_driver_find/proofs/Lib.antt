pub mod ToldLemmas
pub mod PushLemmas
pub mod BeforeLemmas
pub mod FewLemmas
