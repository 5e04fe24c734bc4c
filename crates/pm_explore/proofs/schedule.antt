mod Paths
mod Rounds
mod Serially
mod ObservationLemmas
