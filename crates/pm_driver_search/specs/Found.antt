-- What a search through the schedules of a driver finds (this project's own).
use Rattle.std.specs.Prelude.{ℕ, ◌≡◌, ◌<◌, ◌≤◌, List, Some, length, slice_get}
use Rattle.pm_explore.specs.declared.schedule.Pace.{Pace}
use Rattle.pm_explore.specs.search.Exact.{IsAmong}
use Rattle.pm_driver_orders.specs.Drivers.{Driver}
use Rattle.pm_driver_orders.specs.DriverSchedules.{IsDriverSchedule, driver_preemptions, driver_snapshot}
use Rattle.pm_driver_orders.specs.DriverSnapshots.{DriverSnapshot, Turn}

-- the first so many snapshots are exactly those at which the schedules stand of whose turns at most k preempt, with at most so many
-- callbacks that fail
pub record AreOfDriverSchedules (pace : Pace) (D : Driver) (most : ℕ) (k : ℕ) (snapshots : List DriverSnapshot) (bound : ℕ) : Type 0 where
  pub within : bound ≤ length snapshots
  pub sound : (i : ℕ) (s : DriverSnapshot) → i < bound → slice_get snapshots i ≡ Some s → (turns : List Turn) × IsDriverSchedule pace D most turns × (driver_preemptions D turns ≤ k) × (driver_snapshot D turns ≡ s)
  pub complete : (turns : List Turn) → IsDriverSchedule pace D most turns → driver_preemptions D turns ≤ k → IsAmong snapshots bound (driver_snapshot D turns)

-- the snapshots are exactly those at which the schedules stand
pub record AreOfAllDriverSchedules (pace : Pace) (D : Driver) (most : ℕ) (snapshots : List DriverSnapshot) : Type 0 where
  pub sound : (i : ℕ) (s : DriverSnapshot) → slice_get snapshots i ≡ Some s → (turns : List Turn) × IsDriverSchedule pace D most turns × (driver_snapshot D turns ≡ s)
  pub complete : (turns : List Turn) → IsDriverSchedule pace D most turns → IsAmong snapshots (length snapshots) (driver_snapshot D turns)
