pub mod BondLemmas
pub mod LinkLemmas
pub mod SafeLemmas
