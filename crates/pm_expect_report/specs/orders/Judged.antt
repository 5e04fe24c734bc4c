-- What the schedules of a plan make of the expectations of a file (this project's own).
use Rattle.std.specs.Prelude.{ℕ, ◌≡◌, List, All, map}
use Rattle.pm_expect_report.specs.broken.Found.{IsFirstOf, all_of}
use Rattle.pm_expect_report.specs.declared.broken.expectation.Expectation.{Expectation}
use Rattle.pm_expect_report.specs.trace.Plain.{IsLineOf}
use Rattle.pm_expect.specs.declared.expectation.Expectations.{Expectations}
use Rattle.pm_expect_report.specs.declared.orders.judging.Judged.{Judged}
use Rattle.pm_model.specs.declared.plan.Plan.{Plan}
use Rattle.pm_explore.specs.schedule.Snapshots.{Snapshot}

abbrev pub what_of : Judged → Expectation
what_of j = j.expectation

-- with the first of the snapshots that breaks it, if one does
abbrev pub IsJudgedFirst : Plan → List Snapshot → List ℕ → Judged → Type 0
IsJudgedFirst plan snapshots rounds j = IsFirstOf plan j.expectation snapshots rounds j.broken

-- and a line of the text
abbrev pub HasLine : List ℕ → Judged → Type 0
HasLine text j = IsLineOf text j.line

-- so each of them
pub record AreJudged (plan : Plan) (snapshots : List Snapshot) (rounds text : List ℕ) (expected : Expectations) (all : List Judged) : Type 0 where
  pub each : map what_of all ≡ all_of expected
  pub firsts : All (IsJudgedFirst plan snapshots rounds) all
  pub lines : All (HasLine text) all
