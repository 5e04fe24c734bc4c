-- The first snapshot of a search at which an expectation is broken, and which schedules break it (this project's own).
use Rattle.std.specs.Prelude.{ℕ, ◌≡◌, ◌<◌, ◌≤◌, ◌+◌, ◌↔◌, List, ◌++◌, Option, Some, None, IsSome, length, map, min, slice_get}
use Rattle.pm_expect_report.specs.declared.broken.expectation.Breach.{Breach}
use Rattle.pm_expect_report.specs.declared.broken.expectation.Expectation.{Expectation}
use Rattle.pm_expect_report.specs.declared.broken.expectation.Expectation.TheVariants as expectation
use Rattle.pm_expect_report.specs.declared.broken.firsts.Broken.{Broken}
use Rattle.pm_expect_report.specs.broken.Breaches.{breach_at}
use Rattle.pm_expect.specs.declared.expectation.Expectations.{Expectations}
use Rattle.pm_outcomes.specs.list.Listing.{round_of}
use Rattle.pm_model.specs.declared.plan.Plan.{Plan}
use Rattle.pm_model.specs.History.{History}
use Rattle.pm_explore.specs.declared.schedule.Pace.{Pace}
use Rattle.pm_explore.specs.schedule.Schedules.{IsSchedule, preemptions, snapshot}
use Rattle.pm_explore.specs.schedule.Snapshots.{Follows, Snapshot, start_snapshot}
use Rattle.pm_explore.specs.declared.search.found.Ended.{Ended}
use Rattle.pm_explore.specs.declared.search.found.Ended.TheVariants.{Whole}
use Rattle.pm_explore.specs.search.Exact.{EndWithAll}
use Rattle.pm_explore.specs.search.Growing.{IsLed}
use Rattle.pm_explore.specs.search.Seen.{IsSeen}
use Rattle.pm_explore.specs.search.Trees.{IsTree}
use Rattle.pm_outcomes.specs.paths.Found.{AreOfAllSchedules, AreOfSchedules}

-- what a file expects: its answers, its ends and its uses, each in the file's order
abbrev pub all_of : Expectations → List Expectation
all_of expected =
    map (λ a. expectation.Answer a) expected.answers ++ (map (λ e. expectation.End e) expected.ends ++ map (λ u. expectation.Use u) expected.uses)

-- at none of the first so many snapshots it is broken
abbrev pub IsWholeBefore : Plan → Expectation → List Snapshot → ℕ → Type 0
IsWholeBefore plan e snapshots bound = (i : ℕ) (s : Snapshot) → i < bound → slice_get snapshots i ≡ Some s → breach_at plan e s ≡ None

-- it is broken so at the snapshot of this place, at none before, and this is the number of the place's round
pub record IsFirst (plan : Plan) (e : Expectation) (snapshots : List Snapshot) (rounds : List ℕ) (b : Broken) : Type 0 where
  pub stands : Snapshot
  pub there : slice_get snapshots b.place ≡ Some stands
  pub breach : breach_at plan e stands ≡ Some b.breach
  pub first : IsWholeBefore plan e snapshots b.place
  pub round : b.round ≡ round_of rounds b.place

-- the first such place, or it is broken at no snapshot
abbrev pub IsFirstOf : Plan → Expectation → List Snapshot → List ℕ → Option Broken → Type 0
IsFirstOf plan e snapshots rounds (Some b) = IsFirst plan e snapshots rounds b
IsFirstOf plan e snapshots rounds None = IsWholeBefore plan e snapshots (length snapshots)

-- some schedule of whose lines at most k preempt stands where it is broken
pub record IsBrokenWithin (pace : Pace) (plan : Plan) (k : ℕ) (e : Expectation) : Type 0 where
  pub order : History
  pub is_schedule : IsSchedule pace plan order
  pub few : preemptions plan order ≤ k
  pub breach : Breach
  pub breaks : breach_at plan e (snapshot plan order) ≡ Some breach

-- some schedule does
pub record IsBroken (pace : Pace) (plan : Plan) (e : Expectation) : Type 0 where
  pub order : History
  pub is_schedule : IsSchedule pace plan order
  pub breach : Breach
  pub breaks : breach_at plan e (snapshot plan order) ≡ Some breach

-- it is told with a number of at most k
abbrev pub IsToldWithin : ℕ → Option Broken → Type 0
IsToldWithin k (Some b) = b.round ≤ k
IsToldWithin k None = ⊥

-- A schedule of at most so many preemptions stands where it is broken so, and no more of its lines preempt than of any that breaks it: if some schedule
-- of at most k preemptions breaks it, at most k of these lines preempt.
pub record BreaksSo (pace : Pace) (plan : Plan) (most : ℕ) (e : Expectation) (breach : Breach) (order : History) : Type 0 where
  pub is_schedule : IsSchedule pace plan order
  pub breaks : breach_at plan e (snapshot plan order) ≡ Some breach
  pub within : preemptions plan order ≤ most
  pub fewest : (k : ℕ) → IsBrokenWithin pace plan k e → preemptions plan order ≤ k

-- what a search found: each round has exactly the snapshots of the schedules of at most so many preemptions; and where it saw all, the snapshots are those of
-- all schedules, and the last round has them all
pub record AreFound (pace : Pace) (plan : Plan) (snapshots : List Snapshot) (rounds : List ℕ) (ended : Ended) : Type 0 where
  pub of_schedules : (k bound : ℕ) → slice_get rounds k ≡ Some bound → AreOfSchedules pace plan k snapshots bound
  pub all_schedules : ended ≡ Whole → AreOfAllSchedules pace plan snapshots
  pub last : ended ≡ Whole → EndWithAll snapshots rounds

-- Of what a search found, an expectation is told as broken with a number of at most k, for each k of which all schedules were seen, exactly where some
-- schedule of at most k preemptions breaks it.
abbrev pub FirstsDecideRounds : Type 0
FirstsDecideRounds =
    (pace : Pace) (plan : Plan) (e : Expectation) (snapshots : List Snapshot) (rounds : List ℕ) (ended : Ended) (b : Option Broken) → IsFirstOf plan e snapshots rounds b
    → AreFound pace plan snapshots rounds ended → (k : ℕ) → IsSeen ended rounds k → IsToldWithin k b ↔ IsBrokenWithin pace plan k e

-- Where the snapshots are those of all schedules, it is told as broken exactly where some schedule breaks it.
abbrev pub FirstsDecideAll : Type 0
FirstsDecideAll =
    (pace : Pace) (plan : Plan) (e : Expectation) (snapshots : List Snapshot) (rounds : List ℕ) (b : Option Broken) → IsFirstOf plan e snapshots rounds b
    → AreOfAllSchedules pace plan snapshots → IsSome b ↔ IsBroken pace plan e

-- What is told as broken is broken so by a schedule with the fewest preemptions, which are no more than were asked for.
abbrev pub FirstsAreBroken : Type 0
FirstsAreBroken =
    (pace : Pace) (plan : Plan) (e : Expectation) (snapshots : List Snapshot) (rounds parents : List ℕ) (ended : Ended) (most : ℕ) (b : Broken) → IsFirst plan e snapshots rounds b
    → AreFound pace plan snapshots rounds ended → length rounds ≤ most + 1 → IsTree (Follows pace plan) (start_snapshot plan) snapshots parents
    → IsLed (Follows pace plan) (min most (length rounds)) snapshots parents → (order : History) × BreaksSo pace plan most e b.breach order
