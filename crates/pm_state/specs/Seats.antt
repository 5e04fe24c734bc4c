-- The seats of all actors in a row: callers, then work items, then timers, each in plan order (this project's own).
use Rattle.std.specs.Prelude.{ℕ, ◌≡◌, ◌+◌, ◌*◌, ◌-◌, ◌<◌, ◌^◌, List, drop, length, nat_lt, take, if◌then◌else◌}
use Rattle.pm_base.specs.declared.ActorId.{ActorId}
use Rattle.pm_base.specs.declared.ActorId.TheVariants.{Caller, Work, Timer}
use Rattle.pm_model.specs.declared.plan.Plan.{Plan}
use Rattle.pm_model.specs.declared.stage.Stage.{Stage}
use Rattle.pm_model.specs.Views.{Views}
use Rattle.pm_model.specs.World.{World}

-- the seat of an actor, among so many callers and devices
abbrev pub seat_of : ℕ → ℕ → ActorId → ℕ
seat_of callers devices (Caller c) = c
seat_of callers devices (Work d) = callers + d
seat_of callers devices (Timer d) = callers + devices + d

-- the actor at a seat
abbrev pub actor_at : ℕ → ℕ → ℕ → ActorId
actor_at callers devices i =
    if nat_lt i callers then Caller i else if nat_lt i (callers + devices) then Work (i - callers) else Timer (i - (callers + devices))

-- how many actors a plan has, the seat of one and who sits at a seat
abbrev pub seats : Plan → ℕ
seats plan = length plan.callers + 2 * length plan.devices

abbrev pub seat_in : Plan → ActorId → ℕ
seat_in plan actor = seat_of (length plan.callers) (length plan.devices) actor

abbrev pub actor_in : Plan → ℕ → ActorId
actor_in plan seat = actor_at (length plan.callers) (length plan.devices) seat

-- there is a place at each seat
pub record AreSeats (callers devices : ℕ) (places : List (List Stage)) : Type 0 where
  pub few : callers + 2 * devices < 2 ^ 32
  pub each : length places ≡ callers + 2 * devices

-- the world with the places of callers, of work items and of timers, as they stand in the row
abbrev pub world_of : Views → ℕ → ℕ → List (List Stage) → List ℕ → World
world_of views callers devices places called = record {
  views = views;
  caller_places = take callers places;
  work_places = take devices (drop callers places);
  timer_places = drop devices (drop callers places);
  called = called;
}
