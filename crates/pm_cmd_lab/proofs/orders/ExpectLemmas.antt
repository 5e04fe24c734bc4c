-- What `orders --expect` comes to.
use Rattle.std.proofs.Common.{◌≡◌, ◌++◌, ◌∙◌, ℕ, Bool, List, All, Option, IsSome, ap, length, map, subst, sym}
use Rattle.std.proofs.lemmas.List.Elements.{All-weaker}
use Rattle.pm_expect_report.specs.broken.Found.{AreFound, FirstsAreBroken, FirstsDecideAll, FirstsDecideRounds, IsFirstOf}
use Rattle.pm_expect_report.specs.declared.broken.firsts.Broken.{Broken}
use Rattle.pm_cmd_ends.specs.Reading.{IsRead}
use Rattle.pm_expect_report.specs.orders.Judged.{IsJudgedFirst}
use Rattle.pm_expect_report.specs.orders.Texts.{judged_lines}
use Rattle.pm_expect_report.specs.declared.orders.judging.Judged.{Judged}
use Rattle.pm_cmd_lab.specs.ends.Ending.{OfThis}
use Rattle.pm_cmd_lab.specs.orders.Expect.{ExpectUnread, IsDecided, of_expect, of_plan}
use Rattle.pm_cmd_lab.specs.orders.Found.{IsFound}
use Rattle.pm_cmd_lab.specs.orders.Orders.{SchedulesFound, pace_of, reach}
use Rattle.pm_cmd_lab.proofs.orders.SchedulesLemmas.{reach_is, told_is}
use Rattle.pm_lab_words.specs.declared.request.Bounds.{Bounds}
use Rattle.pm_model.specs.declared.plan.Plan.{Plan}
use Rattle.pm_explore.specs.schedule.Snapshots.{Snapshot}
use Rattle.pm_outcomes.specs.text.Reached.{reach_of}
use Rattle.pm_outcomes.specs.text.Texts.{told}
use Rattle.pm_outcomes.specs.declared.text.reach.Reach.{Reach}
use Rattle.pm_outcomes.specs.declared.find.finding.Outcomes.{Outcomes}
use Rattle.pm_explore.specs.state.SnapshotOf.{snapshot_of}

-- what was found of a plan's schedules, as the laws on first snapshots have it
pub are_found : (bounds : Bounds) (plan : Plan) (found : SchedulesFound bounds plan) → AreFound (pace_of bounds) plan found.snapshots found.rounds found.ended
are_found bounds plan found = record { of_schedules = found.of_schedules; all_schedules = found.all_schedules; last = found.last }

module _ (bounds : Bounds) (plan : Plan) (all : Outcomes) (f : IsFound bounds plan all) (rounds : FirstsDecideRounds) (whole : FirstsDecideAll) (sound : FirstsAreBroken) where
  -- the first snapshot that breaks an expectation decides it
  decided : (j : Judged) → IsFirstOf plan j.expectation (map snapshot_of all.found.tree.nodes.keys) all.found.rounds.items j.broken → IsDecided bounds plan f.found j
  decided j first = record {
    within = λ k seen. rounds (pace_of bounds) plan j.expectation f.found.snapshots f.found.rounds f.found.ended j.broken found_first (are_found bounds plan f.found) k seen;
    of_all = λ is. whole (pace_of bounds) plan j.expectation f.found.snapshots f.found.rounds j.broken found_first (f.found.all_schedules is);
    told_so = λ b is.
        sound (pace_of bounds) plan j.expectation f.found.snapshots f.found.rounds f.found.parents f.found.ended bounds.most b (subst (λ (o : Option Broken). IsFirstOf plan j.expectation f.found.snapshots f.found.rounds o) is found_first)
        (are_found bounds plan f.found) f.found.few f.found.tree f.found.near;
  }
    where
      found_first : IsFirstOf plan j.expectation f.found.snapshots f.found.rounds j.broken
      found_first =
          subst (λ (s : List Snapshot). IsFirstOf plan j.expectation s f.found.rounds j.broken) (sym f.snapshots)
          (subst (λ (r : List ℕ). IsFirstOf plan j.expectation (map snapshot_of all.found.tree.nodes.keys) r j.broken) (sym f.rounds) first)

  -- and so all of them
  pub all_decided : (judged : List Judged) → All (IsJudgedFirst plan (map snapshot_of all.found.tree.nodes.keys) all.found.rounds.items) judged → All (IsDecided bounds plan f.found) judged
  all_decided judged firsts =
      All-weaker (IsJudgedFirst plan (map snapshot_of all.found.tree.nodes.keys) all.found.rounds.items) (IsDecided bounds plan f.found) (λ j first. decided j first) judged firsts

-- which file's read failed
pub plan_failed : (all : Bool) (known : Option (List ℕ)) (plan expect name : List ℕ) (Alone Failed : Type 0) → (IsSome known → Alone) → OfThis plan Failed name → ExpectUnread all known plan expect Alone Failed name
plan_failed all known plan expect name Alone Failed alone this =
    subst (λ (file : List ℕ). ExpectUnread all known plan expect Alone Failed file) (sym this.0) (of_plan alone this.1)

pub file_failed : (all : Bool) (known : Option (List ℕ)) (plan expect name : List ℕ) (read : Plan) (Alone Failed : Type 0) → IsRead all known read → OfThis expect Failed name → ExpectUnread all known plan expect Alone Failed name
file_failed all known plan expect name read Alone Failed is this =
    subst (λ (file : List ℕ). ExpectUnread all known plan expect Alone Failed file) (sym this.0) (of_expect read is this.1)

-- the text of what was found
pub text_is : (bounds : Bounds) (plan : Plan) (differ : Bool) (all : Outcomes) (f : IsFound bounds plan all) (handed file : List ℕ) (piece judged : List Judged) → handed ≡ file → piece ≡ judged
    → judged_lines plan handed (reach_of all.found.ended (length all.found.rounds.items)) (length all.found.rounds.items) piece
    ++ told plan differ (reach_of all.found.ended (length all.found.rounds.items)) (length all.found.tree.nodes.keys) all.observations.items
    ≡ judged_lines plan file (reach f.found) (length f.found.rounds) judged ++ told plan differ (reach f.found) (length f.found.snapshots) f.found.observations
text_is bounds plan differ all f handed file piece judged same_file same =
    let here = reach_of all.found.ended (length all.found.rounds.items) in
    let shown = told plan differ here (length all.found.tree.nodes.keys) all.observations.items in
    ap (λ (name : List ℕ). judged_lines plan name here (length all.found.rounds.items) piece ++ shown) same_file
    ∙ (ap (λ (js : List Judged). judged_lines plan file here (length all.found.rounds.items) js ++ shown) same
    ∙ (ap (λ (r : Reach). judged_lines plan file r (length all.found.rounds.items) judged ++ shown) (reach_is bounds plan all f)
    ∙ (ap (λ (rs : List ℕ). judged_lines plan file (reach f.found) (length rs) judged ++ shown) (sym f.rounds)
    ∙ ap (λ (text : List ℕ). judged_lines plan file (reach f.found) (length f.found.rounds) judged ++ text) (told_is bounds plan differ all f))))
