-- The islands of a plan one by one: where an observation is at home, and whether some device has no island (this project's own).
use Rattle.std.specs.Prelude.{ℕ, ◌||◌, Bool, List, filter, length, nat_eq, nat_le}
use Rattle.std.specs.List.{list_any, range_with_len}
use Rattle.pm_outcomes.specs.declared.list.observations.Observation.{Observation}
use Rattle.pm_outcomes.specs.declared.list.observations.Observation.TheVariants.{End, Return}
use Rattle.pm_outcomes.specs.declared.list.observations.Outcome.{Outcome}
use Rattle.pm_model.specs.declared.plan.Plan.{Plan}
use Rattle.pm_model.specs.Islands.{IsPart, Node, Numbering, the_caller, the_device}

-- the number of the island where an observation is at home: its caller's, or its device's
abbrev pub home : (Node → ℕ) → Observation → ℕ
home island (Return r) = island (the_caller r.caller)
home island (End l) = island (the_device l.device.0)

-- those of the outcomes that are at home on island n
abbrev pub at_home : (Node → ℕ) → ℕ → List Outcome → List Outcome
at_home island n outcomes = filter (λ o. nat_eq (home island o.observation) n) outcomes

-- the part of the island where an observation is at home
pub record IsHomePart (plan : Plan) (observation : Observation) (part : Plan) : Type 0 where
  pub count : ℕ
  pub numbering : Numbering plan count
  pub is_part : IsPart plan numbering.island (home numbering.island observation) part

-- some device has no island: no caller is connected with it; or there is no island at all
abbrev pub has_rest : Plan → (Node → ℕ) → ℕ → Bool
has_rest plan island count = nat_eq count 0 || list_any (λ d. nat_le count (island (the_device d))) (range_with_len 0 (length plan.devices))
