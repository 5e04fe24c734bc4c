pub mod AheadLemmas
