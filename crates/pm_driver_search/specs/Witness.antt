-- A schedule that stands where a search has come (this project's own).
use Rattle.std.specs.Prelude.{ℕ, ◌≡◌, ◌≤◌, List, Some, reverse, slice_get}
use Rattle.pm_model.specs.declared.event.Line.{Line}
use Rattle.pm_explore.specs.declared.schedule.Pace.{Pace}
use Rattle.pm_explore.specs.search.Trees.{IsLedWithin}
use Rattle.pm_driver_orders.specs.Drivers.{Driver}
use Rattle.pm_driver_orders.specs.DriverSchedules.{IsDriverSchedule, driver_preemptions, driver_snapshot, lines_of}
use Rattle.pm_driver_orders.specs.DriverSnapshots.{DriverFollows, DriverSnapshot, MayCome, Turn, after_turn}

-- each turn that leads from the one snapshot to the other has this line
abbrev pub IsLineBetween : Pace → Driver → ℕ → DriverSnapshot → DriverSnapshot → Line → Type 0
IsLineBetween pace D most from to line = (x : Turn) → MayCome pace D most from x → to ≡ after_turn D from x → x.line ≡ line

-- The lines, the oldest first, are those of a schedule that stands at a place of the search. No more of its turns preempt than by the parents
-- on the way there.
pub record IsWitness (pace : Pace) (D : Driver) (most : ℕ) (points : List DriverSnapshot) (parents : List ℕ) (at : ℕ) (lines : List Line) : Type 0 where
  pub turns : List Turn
  pub schedule : IsDriverSchedule pace D most turns
  pub are : lines ≡ reverse (lines_of turns)
  pub stands : slice_get points at ≡ Some (driver_snapshot D turns)
  pub few : (k : ℕ) → IsLedWithin (DriverFollows pace D most) points parents k at → driver_preemptions D turns ≤ k
