-- What was gone through of a driver's schedules (this project's own).
use Rattle.std.specs.Prelude.{ℕ, zero, suc, ◌≡◌, ◌<◌, ◌≤◌, ◌+◌, ◌-◌, ◌/◌, Bool, true, false, List, [], ◌∷◌, ◌++◌, Option, Some, length, map, slice_get, unwrap_or, if◌then◌else◌}
use Rattle.pm_explore.specs.declared.schedule.Pace.{Pace}
use Rattle.pm_explore.specs.declared.schedule.Pace.TheVariants as pace
use Rattle.pm_explore.specs.declared.search.found.Ended.TheVariants.{Rounds, Stopped, Whole}
use Rattle.pm_explore.specs.declared.search.graph.Stop.TheVariants.{Full}
use Rattle.pm_explore.specs.search.Exact.{EndWithAll}
use Rattle.pm_explore.specs.search.Trees.{AreLed, IsTree}
use Rattle.pm_driver_find.specs.declared.examined.ExaminedDriver.{ExaminedDriver}
use Rattle.pm_driver_find.specs.Suspects.{suspects_of}
use Rattle.pm_driver_find.specs.Told.{AreToldExactly}
use Rattle.pm_driver_orders.specs.DriverSnapshots.{DriverFollows, DriverSnapshot, start_driver}
use Rattle.pm_driver_rules.specs.GoingOn.{driver_of}
use Rattle.pm_driver_rules.specs.Nodes.{driver_snapshot_of}
use Rattle.pm_driver_search.specs.Found.{AreOfAllDriverSchedules, AreOfDriverSchedules}
use Rattle.pm_driver_report.specs.declared.passes.DriverPass.{DriverPass}
use Rattle.pm_driver_report.specs.declared.passes.PassAsked.{PassAsked}
use Rattle.pm_lab_words.specs.declared.driver.DriverBounds.{DriverBounds}
use Rattle.pm_lab_words.specs.declared.driver.Paces.{Paces}
use Rattle.pm_lab_words.specs.declared.driver.Paces.TheVariants as paces

-- the snapshots of a pass
abbrev pub snapshots_of : DriverPass → List DriverSnapshot
snapshots_of pass = map driver_snapshot_of pass.all.found.tree.nodes.keys

-- The schedules of a pace were gone through with so many states: in each complete round exactly that shows which is told with a place in it; how it
-- ended; and where it stopped for want of states, these are spent. The parents lead to each snapshot.
pub record IsPassOf (E : ExaminedDriver) (asked : PassAsked) (most states : ℕ) (pass : DriverPass) : Type 0 where
  pub pace : pass.pace ≡ asked.pace
  pub failures : pass.failures ≡ asked.failures
  pub told : (k bound : ℕ) → slice_get pass.all.found.rounds.items k ≡ Some bound → AreToldExactly E pass.pace (driver_of E.rules.now) pass.failures k bound (suspects_of E) pass.all.told.items
  pub rounds : (k bound : ℕ) → slice_get pass.all.found.rounds.items k ≡ Some bound → AreOfDriverSchedules pass.pace (driver_of E.rules.now) pass.failures k (snapshots_of pass) bound
  pub tree : IsTree (DriverFollows pass.pace (driver_of E.rules.now) pass.failures) (start_driver (driver_of E.rules.now)) (snapshots_of pass) pass.all.found.tree.parents.items
  pub led : AreLed (DriverFollows pass.pace (driver_of E.rules.now) pass.failures) (snapshots_of pass) pass.all.found.tree.parents.items pass.all.found.rounds.items
  pub few : length pass.all.found.rounds.items ≤ most + 1
  pub whole : pass.all.found.ended ≡ Whole → AreOfAllDriverSchedules pass.pace (driver_of E.rules.now) pass.failures (snapshots_of pass)
  pub last : pass.all.found.ended ≡ Whole → EndWithAll (snapshots_of pass) pass.all.found.rounds.items
  pub complete : pass.all.found.ended ≡ Rounds → length pass.all.found.rounds.items ≡ most + 1
  pub full : pass.all.found.ended ≡ Stopped Full → states ≤ length pass.all.found.tree.nodes.keys

-- as many preemptions as were asked for, or 99
abbrev pub most_of : Option ℕ → ℕ
most_of most = unwrap_or most 99

-- the eager schedules with at most so many failing callbacks, with a part of the states
abbrev pub eager_part : ℕ → PassAsked
eager_part failures = record { pace = pace.Eager; failures = failures; in_part = true }

-- and with at most 0, 1, .. of them: so many passes
abbrev pub eager_parts : ℕ → List PassAsked
eager_parts zero = []
eager_parts (suc n) = eager_parts n ++ eager_part n ∷ []

abbrev pub with_all : Pace → ℕ → PassAsked
with_all p failures = record { pace = p; failures = failures; in_part = false }

-- What is asked for, in its order: the eager schedules with 0, 1, .. failing callbacks, and behind them the late ones with as many as there may be. The
-- last has all states that are left.
abbrev pub asked_by : Paces → ℕ → List PassAsked
asked_by paces.Eager failures = eager_parts failures ++ with_all pace.Eager failures ∷ []
asked_by paces.Late failures = with_all pace.Late failures ∷ []
asked_by paces.Both failures = eager_parts failures ++ eager_part failures ∷ with_all pace.Late failures ∷ []

-- a pass that isn't the last has a quarter of the states that are left, and one at least
abbrev pub states_for : PassAsked → ℕ → ℕ
states_for asked left = if asked.in_part then left / 4 + 1 else left

-- Each that is asked for was gone through, with the states that those before it have left; from where none are left they are left out.
pub data AreThrough (E : ExaminedDriver) (most : ℕ) : ℕ → List PassAsked → List DriverPass → Type 0 where
  none_asked : (left : ℕ) → AreThrough E most left [] []
  none_left : (asked : List PassAsked) → AreThrough E most 0 asked []
  one_through : (left : ℕ) (first : PassAsked) (asked : List PassAsked) (pass : DriverPass) (passes : List DriverPass) → 0 < left → IsPassOf E first most (states_for first left) pass
      → AreThrough E most (left - length pass.all.found.tree.nodes.keys) asked passes → AreThrough E most left (first ∷ asked) (pass ∷ passes)

-- to a list the passes are added that go through what is asked for
pub record AddsPasses (E : ExaminedDriver) (most left : ℕ) (asked : List PassAsked) (old new : List DriverPass) : Type 0 where
  pub added : List DriverPass
  pub are : new ≡ old ++ added
  pub through : AreThrough E most left asked added

-- all that was asked for
abbrev pub ArePassesOf : ExaminedDriver → DriverBounds → List DriverPass → Type 0
ArePassesOf E bounds passes = AreThrough E (most_of bounds.most) bounds.states (asked_by bounds.paces bounds.failures) passes
