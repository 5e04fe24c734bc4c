-- The list of what showed, by rounds (this project's own).
use Rattle.std.specs.Prelude.{ℕ, ◌||◌, Bool, List, Option, Some, None, length, nat_lt, if◌then◌else◌}
use Rattle.std.specs.List.{filter_map, position_or_len}
use Rattle.std.specs.List.Sorted.{IsPermutation, IsSorted}
use Rattle.pm_outcomes.specs.declared.list.observations.Observation.{Observation}
use Rattle.pm_outcomes.specs.declared.list.observations.Outcome.{Outcome}
use Rattle.pm_outcomes.specs.list.Order.{by_text}

-- the first round whose snapshots reach beyond a place; the number of rounds, if none does
abbrev pub round_of : List ℕ → ℕ → ℕ
round_of rounds place = position_or_len (nat_lt place) rounds

-- an observation that showed first at a place, told by its round; none where the place is in no round, unless all snapshots count
abbrev pub outcome_of : List ℕ → Bool → (Observation × ℕ) → Option Outcome
outcome_of rounds whole (observation, place) =
    let round = round_of rounds place in
    if whole || nat_lt round (length rounds) then Some (record { observation = observation; round = round; place = place }) else None

-- the outcomes of the observations, in the order of the text
pub record AreListed (firsts : List (Observation × ℕ)) (rounds : List ℕ) (whole : Bool) (outcomes : List Outcome) : Type 0 where
  pub same : IsPermutation (filter_map (outcome_of rounds whole) firsts) outcomes
  pub in_order : IsSorted by_text outcomes
