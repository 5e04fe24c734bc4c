-- What follows a snapshot of a driver by turns that are failures, or by those that are none (this project's own).
use Rattle.std.specs.Prelude.{ℕ, ◌≡◌, Bool, true, false, not, List, [], ◌++◌, map, if◌then◌else◌}
use Rattle.std.specs.List.{flat_map}
use Rattle.pm_model.specs.declared.event.Event.{Event}
use Rattle.pm_model.specs.declared.event.Line.{Line}
use Rattle.pm_explore.specs.declared.schedule.Pace.{Pace}
use Rattle.pm_explore.specs.search.Exact.{HasExactly}
use Rattle.pm_driver_orders.specs.Drivers.{Driver}
use Rattle.pm_driver_orders.specs.DriverSnapshots.{DriverFollows, DriverSnapshot, after_turn, all_after, is_failure}

-- the event is a failure, or is none
abbrev pub is_of_kind : Bool → Event → Bool
is_of_kind true e = is_failure e
is_of_kind false e = not (is_failure e)

-- the snapshots to which a line leads
abbrev pub snapshots_by : Driver → DriverSnapshot → Line → List DriverSnapshot
snapshots_by D s line = map (λ ps. after_turn D s (record { line = line; positions = ps })) (all_after D s.snapshot.world.views line.actor line.event s.positions)

abbrev pub kept_by : Driver → DriverSnapshot → Bool → Line → List DriverSnapshot
kept_by D s failing line = if is_of_kind failing line.event then snapshots_by D s line else []

-- those to which the lines of this kind lead
abbrev pub snapshots_after : Driver → DriverSnapshot → Bool → List Line → List DriverSnapshot
snapshots_after D s failing lines = flat_map (kept_by D s failing) lines

-- it follows by a turn of this kind
pub record FollowsBy (pace : Pace) (D : Driver) (most : ℕ) (preempting failing : Bool) (from to : DriverSnapshot) : Type 0 where
  pub follows : DriverFollows pace D most preempting from to
  pub kind : is_failure follows.turn.line.event ≡ failing

-- to a list all is added that follows a snapshot by turns of this kind, and nothing else
pub record AddsAll (pace : Pace) (D : Driver) (most : ℕ) (preempting failing : Bool) (s : DriverSnapshot) (old new : List DriverSnapshot) : Type 0 where
  pub added : List DriverSnapshot
  pub are : new ≡ old ++ added
  pub all : HasExactly (FollowsBy pace D most preempting failing s) added
