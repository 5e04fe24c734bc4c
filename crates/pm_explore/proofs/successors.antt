mod Numbering
pub mod Places
mod Busy
mod Found
mod Successors
mod Near
mod MomentLemmas
mod LoopLemmas
