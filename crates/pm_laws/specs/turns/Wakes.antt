-- From when an actor may write its next line, and whose turn it is by these moments alone (this project's own).
use Rattle.std.specs.Prelude.{ℕ, Bool, false, List, Option, Some, None, find, nat_le, option_map, if◌then◌else◌}
use Rattle.std.specs.List.{filter_map}
use Rattle.std.specs.Option.{option_and_then, option_map_or}
use Rattle.pm_base.specs.declared.ActorId.{ActorId}
use Rattle.pm_model.specs.declared.plan.Plan.{Plan}
use Rattle.pm_model.specs.declared.stage.Stage.{Stage}
use Rattle.pm_model.specs.declared.stage.Stage.TheVariants as stage
use Rattle.pm_model.specs.Serial.{least}
use Rattle.pm_model.specs.Views.{Views}
use Rattle.pm_model.specs.World.{World, due, stage_at}
use Rattle.pm_laws.specs.turns.Blocks.{blocks}

-- from when the line of a stage may be written; never where the stage blocks or awaits a call
abbrev pub wakes_at : Plan → Views → Stage → Option ℕ
wakes_at plan v (stage.Await a) = None
wakes_at plan v s = if blocks v s then None else Some (due plan v s)

abbrev pub wakes : Plan → World → ActorId → Option ℕ
wakes plan w actor = option_and_then (wakes_at plan w.views) (stage_at plan w actor)

-- there is a moment, and it has come at t
abbrev pub is_within : ℕ → Option ℕ → Bool
is_within t wake = option_map_or (λ m. nat_le m t) wake false

-- a moment that has not come at t
abbrev pub after : ℕ → Option ℕ → Option ℕ
after t wake = if is_within t wake then None else wake

-- the first of a round that may write at t
abbrev pub first_awake : {A : Type 0} → (A → Option ℕ) → List A → ℕ → Option A
first_awake wake round t = find (λ a. is_within t (wake a)) round

abbrev pub or_least : {A : Type 0} → (A → Option ℕ) → List A → ℕ → Option A → Option (A × ℕ)
or_least wake round t (Some a) = Some (a, t)
or_least wake round t None = option_and_then (λ later. option_map (λ a. (a, later)) (first_awake wake round later)) (least (filter_map wake round))

-- the first of a round that may write at t, at t; else the first that may at the least moment of all, at that moment
abbrev pub turn_by : {A : Type 0} → (A → Option ℕ) → List A → ℕ → Option (A × ℕ)
turn_by wake round t = or_least wake round t (first_awake wake round t)
