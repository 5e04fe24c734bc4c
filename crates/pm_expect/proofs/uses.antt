mod LackLemmas
mod WatchLemmas
