mod Among
mod Seeing
mod Telling
mod Once
mod WitnessLemmas
