mod PlainLemmas
mod CheckLemmas
