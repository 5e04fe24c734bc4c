-- Where an observation stands in a list (this project's own).
use Rattle.std.specs.Prelude.{ℕ, ◌≡◌, ◌<◌, List, Some, slice_get}
use Rattle.pm_outcomes.specs.declared.list.observations.Observation.{Observation}
use Rattle.pm_outcomes.specs.declared.list.observations.Outcome.{Outcome}

pub record IsObservationAt (outcomes : List Outcome) (m : Observation) (place : ℕ) : Type 0 where
  pub outcome : Outcome
  pub there : slice_get outcomes place ≡ Some outcome
  pub is : outcome.observation ≡ m

-- none of the first so many has it
abbrev pub HasItNot : List Outcome → Observation → ℕ → Type 0
HasItNot outcomes m count = (i : ℕ) (o : Outcome) → i < count → slice_get outcomes i ≡ Some o → ¬ (o.observation ≡ m)
