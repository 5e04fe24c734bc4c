pub mod PushLemmas
pub mod NextLemmas
pub mod LaneAlike
pub mod TellLemmas
pub mod ShowLemmas
