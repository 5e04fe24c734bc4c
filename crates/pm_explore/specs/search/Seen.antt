-- Of how many steps that spend all was seen (this project's own).
use Rattle.std.specs.Prelude.{ℕ, ◌≡◌, ◌<◌, ◌⊎◌, List, length}
use Rattle.pm_explore.specs.declared.search.found.Ended.{Ended}
use Rattle.pm_explore.specs.declared.search.found.Ended.TheVariants.{Whole}

-- all that is reached by steps of which at most k spend was seen: that round is complete, or the search saw all
abbrev pub IsSeen : Ended → List ℕ → ℕ → Type 0
IsSeen ended rounds k = (ended ≡ Whole) ⊎ (k < length rounds)
