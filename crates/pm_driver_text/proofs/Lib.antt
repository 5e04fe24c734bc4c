pub mod CutLemmas
pub mod ExitLemmas
