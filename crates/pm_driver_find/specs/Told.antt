-- What is told of the schedules of a driver (this project's own).
use Rattle.std.specs.Prelude.{ℕ, ◌≡◌, ◌<◌, ◌≤◌, ◌⊎◌, true, false, List, Some, slice_get}
use Rattle.pm_explore.specs.declared.schedule.Pace.{Pace}
use Rattle.pm_driver_orders.specs.Drivers.{Driver}
use Rattle.pm_driver_orders.specs.DriverSchedules.{IsDriverSchedule, driver_preemptions, driver_snapshot}
use Rattle.pm_driver_orders.specs.DriverSnapshots.{DriverSnapshot, Turn}
use Rattle.pm_driver_find.specs.declared.examined.ExaminedDriver.{ExaminedDriver}
use Rattle.pm_driver_find.specs.declared.firsts.DriverFinding.{DriverFinding}
use Rattle.pm_driver_find.specs.declared.sights.DriverSight.{DriverSight}
use Rattle.pm_driver_find.specs.Sights.{is_seen}

-- none of the first so many snapshots shows it
abbrev pub IsUnseen : ExaminedDriver → List DriverSnapshot → ℕ → DriverSight → Type 0
IsUnseen E snapshots bound x = (i : ℕ) (s : DriverSnapshot) → i < bound → slice_get snapshots i ≡ Some s → is_seen E s x ≡ false

-- the snapshot at a place shows it, and none before
pub record IsFirstSeen (E : ExaminedDriver) (snapshots : List DriverSnapshot) (x : DriverSight) (at : ℕ) : Type 0 where
  pub where_it_stands : DriverSnapshot
  pub there : slice_get snapshots at ≡ Some where_it_stands
  pub shows : is_seen E where_it_stands x ≡ true
  pub unseen : IsUnseen E snapshots at x

-- it is told with a place below a bound
pub record IsToldBefore (told : List DriverFinding) (bound : ℕ) (x : DriverSight) : Type 0 where
  pub index : ℕ
  pub finding : DriverFinding
  pub there : slice_get told index ≡ Some finding
  pub of_it : finding.sight ≡ x
  pub few : finding.place < bound

-- some schedule of whose turns at most k preempt shows it, with at most so many callbacks that fail
pub record IsShownWithin (E : ExaminedDriver) (pace : Pace) (D : Driver) (most k : ℕ) (x : DriverSight) : Type 0 where
  pub turns : List Turn
  pub order : IsDriverSchedule pace D most turns
  pub few : driver_preemptions D turns ≤ k
  pub shows : is_seen E (driver_snapshot D turns) x ≡ true

-- of what is looked for, exactly that is told with a place below the bound which some schedule of at most k preemptions shows
pub record AreToldExactly (E : ExaminedDriver) (pace : Pace) (D : Driver) (most k bound : ℕ) (sights : List DriverSight) (told : List DriverFinding) : Type 0 where
  pub sound : (x : DriverSight) → IsToldBefore told bound x → IsShownWithin E pace D most k x
  pub complete : (i : ℕ) (x : DriverSight) → slice_get sights i ≡ Some x → IsShownWithin E pace D most k x → IsToldBefore told bound x

-- what is told of these sights: each with the first snapshot that shows it, where any does
pub record AreFirstSeen (E : ExaminedDriver) (snapshots : List DriverSnapshot) (sights : List DriverSight) (bound : ℕ) (told : List DriverFinding) : Type 0 where
  pub sound : (i : ℕ) (f : DriverFinding) → slice_get told i ≡ Some f → IsFirstSeen E snapshots f.sight f.place
  pub complete : (i : ℕ) (x : DriverSight) → i < bound → slice_get sights i ≡ Some x → ((j : ℕ) × (f : DriverFinding) × (slice_get told j ≡ Some f) × (f.sight ≡ x)) ⊎ ((n : ℕ) → IsUnseen E snapshots n x)
