-- What shows before a finding does (this project's own).
use Rattle.std.specs.Prelude.{ℕ, ◌≡◌, ◌<◌, true, false, List, Option, Some, None, nat_lt, slice_get, if◌then◌else◌}
use Rattle.pm_driver_orders.specs.DriverSnapshots.{DriverSnapshot}
use Rattle.pm_driver_find.specs.declared.examined.ExaminedDriver.{ExaminedDriver}
use Rattle.pm_driver_find.specs.declared.firsts.DriverFinding.{DriverFinding}
use Rattle.pm_driver_find.specs.Sights.{is_seen}

-- the place that one follows; none for the first
abbrev pub parent_in : List ℕ → ℕ → Option ℕ
parent_in parents at = if nat_lt 0 at then slice_get parents at else None

-- the second place is before the first on the way to it
pub data IsBefore (parents : List ℕ) : ℕ → ℕ → Type 0 where
  parent : {at p : ℕ} → parent_in parents at ≡ Some p → IsBefore parents at p
  further : {at q : ℕ} (p : ℕ) → parent_in parents at ≡ Some p → IsBefore parents p q → IsBefore parents at q

abbrev pub newer_of : Option ℕ → Option ℕ → Option ℕ
newer_of (Some n) old = Some n
newer_of None old = old

-- none of the first so many of those that are told shows
abbrev pub ShowsNone : ExaminedDriver → DriverSnapshot → List DriverFinding → ℕ → Type 0
ShowsNone E s told bound = (i : ℕ) (f : DriverFinding) → i < bound → slice_get told i ≡ Some f → is_seen E s f.sight ≡ false

-- the one of a number shows, and none before it in the list
pub record ShowsFirst (E : ExaminedDriver) (s : DriverSnapshot) (told : List DriverFinding) (number : ℕ) : Type 0 where
  pub finding : DriverFinding
  pub there : slice_get told number ≡ Some finding
  pub shows : is_seen E s finding.sight ≡ true
  pub least : ShowsNone E s told number

-- the same of the snapshot at a place
abbrev pub ShowsNoneAt : ExaminedDriver → List DriverSnapshot → List DriverFinding → ℕ → Type 0
ShowsNoneAt E snapshots told place = (s : DriverSnapshot) (i : ℕ) (f : DriverFinding) → slice_get snapshots place ≡ Some s → slice_get told i ≡ Some f → is_seen E s f.sight ≡ false

pub record ShowsFirstAt (E : ExaminedDriver) (snapshots : List DriverSnapshot) (told : List DriverFinding) (place number : ℕ) : Type 0 where
  pub where_it_stands : DriverSnapshot
  pub stands : slice_get snapshots place ≡ Some where_it_stands
  pub first : ShowsFirst E where_it_stands told number

-- on the way to a place the one of a number shows before that place, and none shows earlier
pub record ShowsBefore (E : ExaminedDriver) (snapshots : List DriverSnapshot) (parents : List ℕ) (told : List DriverFinding) (at number : ℕ) : Type 0 where
  pub place : ℕ
  pub before : IsBefore parents at place
  pub shown : ShowsFirstAt E snapshots told place number
  pub earlier : (q : ℕ) → IsBefore parents place q → ShowsNoneAt E snapshots told q
