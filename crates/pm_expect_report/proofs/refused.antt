mod MessageLemmas
