mod ComesLemmas
mod GatherLemmas
mod OneRun
mod DeskLemmas
pub mod RunLemmas
pub mod SerialLemmas
pub mod SummaryLemmas
pub mod FeedLemmas
pub mod TraceLemmas
pub mod WriteLemmas
pub mod HeadlineLemmas
