pub mod TimesLemmas
pub mod KeptLemmas
pub mod AllKeptLemmas
