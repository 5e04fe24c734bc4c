pub mod ObservationLemmas
pub mod ShownLemmas
pub mod WorkLemmas
pub mod FailLemmas
pub mod BrokenLemmas
pub mod NearLemmas
pub mod FindingLemmas
