pub mod ChainLemmas
pub mod MemberLemmas
pub mod StartLemmas
pub mod SwitchLemmas
pub mod WalkLemmas
