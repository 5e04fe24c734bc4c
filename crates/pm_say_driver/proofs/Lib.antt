pub mod TellsLemmas
