-- Where a schedule of a driver stands: what decides how it may go on (this project's own). How many commands have been called
-- and how often callbacks have begun is no part of it.
use Rattle.std.specs.Prelude.{ℕ, ◌≡◌, ◌≤◌, Bool, false, not, List, [], ◌∷◌, Option, Some, None, map, pos, slice_get, slice_set, if◌then◌else◌}
use Rattle.std.specs.List.{Contains}
use Rattle.std.specs.Option.{option_and_then, option_map_or}
use Rattle.std.specs.Ordering.{int_eq}
use Rattle.pm_base.specs.declared.ActorId.{ActorId}
use Rattle.pm_base.specs.declared.ActorId.TheVariants.{Caller}
use Rattle.pm_model.specs.declared.event.Event.{Event}
use Rattle.pm_model.specs.declared.event.Event.TheVariants as event
use Rattle.pm_model.specs.declared.event.Line.{Line}
use Rattle.pm_model.specs.Views.{Views}
use Rattle.pm_explore.specs.schedule.Schedules.{one_more_if}
use Rattle.pm_explore.specs.schedule.Snapshots.{IsTimely, MayFollow, Snapshot, after, preempts, start_snapshot}
use Rattle.pm_explore.specs.declared.schedule.Pace.{Pace}
use Rattle.pm_driver_flat.specs.Flat.{bare_world}
use Rattle.pm_driver_orders.specs.Programs.{goes_on_at}
use Rattle.pm_driver_orders.specs.declared.Position.{Position}
use Rattle.pm_driver_orders.specs.declared.Position.TheVariants.{At, In}
use Rattle.pm_driver_orders.specs.Drivers.{Driver, first_positions, posed, ways_at}

-- a snapshot whose counts of calls and of begins are forgotten, where each caller stands in its program, the step whose call returned with the last line, and how many callbacks have failed
pub record DriverSnapshot : Type 0 where
  pub snapshot : Snapshot
  pub positions : List Position
  pub returned : Option ℕ
  pub failures : ℕ

abbrev pub bare_snapshot : Snapshot → Snapshot
bare_snapshot s = record s { world = bare_world s.world }

abbrev pub start_driver : Driver → DriverSnapshot
start_driver D = record { snapshot = bare_snapshot (start_snapshot D.plan); positions = first_positions D; returned = None; failures = 0 }

-- a callback ends, and fails
abbrev pub is_failure : Event → Bool
is_failure (event.End d k code) = not (int_eq code (pos 0))
is_failure _ = false

-- the snapshot as it goes on with this line
abbrev pub posed_for : Driver → List Position → Line → Snapshot → Snapshot
posed_for D ps line s = record s { world = posed D ps (is_failure line.event) s.world }

abbrev pub posed_snapshot : Driver → DriverSnapshot → Line → Snapshot
posed_snapshot D s line = posed_for D s.positions line s.snapshot

-- where a caller may stand after an event of its own: it calls from before a command that it may call, and returns from
-- within a call, with these views before the event
abbrev pub positions_after : Driver → List Position → Views → ℕ → Event → Position → List Position
positions_after D ps v c (event.Call command) (At k) = if D.may_call ps v c then In k ∷ [] else []
positions_after D ps v c (event.Call command) (In k) = []
positions_after D ps v c (event.Ret helper d code) (At k) = []
positions_after D ps v c (event.Ret helper d code) (In k) = option_map_or (λ ways. map At (goes_on_at ways v code)) (ways_at D c k) []
positions_after D ps v c _ p = p ∷ []

-- where all may stand after a line
abbrev pub all_after : Driver → Views → ActorId → Event → List Position → List (List Position)
all_after D v (Caller c) e ps = option_map_or (λ p. map (slice_set ps c) (positions_after D ps v c e p)) (slice_get ps c) []
all_after D v _ e ps = ps ∷ []

abbrev pub step_in : Event → Position → Option ℕ
step_in (event.Ret helper d code) (In k) = Some k
step_in _ _ = None

abbrev pub returned_step : ActorId → Event → List Position → Option ℕ
returned_step (Caller c) e ps = option_and_then (step_in e) (slice_get ps c)
returned_step _ e ps = None

-- a line, and where all stand after it
pub record Turn : Type 0 where
  pub line : Line
  pub positions : List Position

abbrev pub after_turn : Driver → DriverSnapshot → Turn → DriverSnapshot
after_turn D s x = record {
  snapshot = bare_snapshot (after D.plan (posed_snapshot D s x.line) x.line);
  positions = x.positions;
  returned = returned_step x.line.actor x.line.event s.positions;
  failures = one_more_if (is_failure x.line.event) s.failures;
}

-- The turn may come next: its line may, from the snapshot as it goes on with it, and comes when the pace lets it; its caller goes
-- on as its program does; and no more callbacks have failed than may.
pub record MayCome (pace : Pace) (D : Driver) (most : ℕ) (s : DriverSnapshot) (x : Turn) : Type 0 where
  pub may : MayFollow D.plan (posed_snapshot D s x.line) x.line
  pub timely : IsTimely pace D.plan (posed_snapshot D s x.line) x.line
  pub goes : Contains (all_after D s.snapshot.world.views x.line.actor x.line.event s.positions) x.positions
  pub few : (after_turn D s x).failures ≤ most

abbrev pub turn_preempts : Driver → DriverSnapshot → Turn → Bool
turn_preempts D s x = preempts D.plan (posed_snapshot D s x.line) x.line

-- a turn leads from one snapshot to the other, and preempts or doesn't
pub record DriverFollows (pace : Pace) (D : Driver) (most : ℕ) (preempting : Bool) (from to : DriverSnapshot) : Type 0 where
  pub turn : Turn
  pub may : MayCome pace D most from turn
  pub preempts_is : turn_preempts D from turn ≡ preempting
  pub leads : to ≡ after_turn D from turn
