-- What `order .. fails INDEX` comes to.
use Rattle.std.proofs.Common.{ℕ, ◌≡◌, ◌<◌, ◌≤◌, ◌-◌, ◌∙◌, Bool, List, Option, Some, None, Ok, Err, Vec, Global, IsSome, ap, get_or, length, map, min, reverse, slice_get, subst, sym, inl, inr, arith}
use Rattle.std.proofs.lemmas.Bool.{cases_lt}
use Rattle.std.proofs.lemmas.Option.{slice_get-get_or, slice_get_within}
use Rattle.pm_expect_report.specs.broken.Breaches.{breach_at}
use Rattle.pm_expect_report.specs.broken.Found.{FirstsDecideAll, FirstsDecideRounds, IsBrokenWithin, IsFirst, IsFirstOf, all_of}
use Rattle.pm_expect_report.specs.declared.broken.expectation.Expectation.{Expectation}
use Rattle.pm_expect_report.specs.declared.broken.firsts.Broken.{Broken}
use Rattle.pm_expect_report.proofs.broken.Lists.{in_its_round, some_is}
use Rattle.pm_cmd_ends.specs.Ending.{Taking, TookNothing}
use Rattle.pm_cmd_ends.specs.Reading.{IsRead}
use Rattle.pm_expect.specs.declared.expectation.Expectations.{Expectations}
use Rattle.pm_expect_report.specs.orders.Texts.{no_expectation_line, unbroken_line}
use Rattle.pm_cmd_lab.specs.ends.Ending.{Ending, Refused, Unseen}
use Rattle.pm_cmd_lab.specs.ends.Reading.{OfPlan, held, read as plan_read}
use Rattle.pm_cmd_lab.specs.declared.ends.ending.Fault.{Fault}
use Rattle.pm_cmd_lab.specs.declared.ends.ending.Fault.TheVariants as fault
use Rattle.pm_cmd_lab.specs.find.Check.{AreRead, IsNotRead, OfExpectations, read}
use Rattle.pm_cmd_lab.proofs.find.CheckLemmas.{unread_told}
use Rattle.pm_cmd_lab.specs.order.Failing.{BreakEnds, FailingEnds, IsNotBroken, IsToldOfFile, IsUnbroken, IsPathBreaking, has, lacks, too_far, unbroken}
use Rattle.pm_cmd_lab.specs.order.Order.{none_ending, too_far_text}
use Rattle.pm_cmd_lab.specs.order.Work.{CameTo, Work}
use Rattle.pm_cmd_lab.specs.declared.order.stop.Stop.{Stop}
use Rattle.pm_cmd_lab.specs.declared.order.stop.Stop.TheVariants as stop
use Rattle.pm_cmd_lab.proofs.order.WorkLemmas.{came_further}
use Rattle.pm_cmd_lab.specs.orders.Found.{IsFound, IsLedThrough}
use Rattle.pm_cmd_lab.specs.orders.Orders.{pace_of, reach}
use Rattle.pm_cmd_lab.proofs.orders.ExpectLemmas.{are_found}
use Rattle.pm_cmd_lab.proofs.orders.SchedulesLemmas.{reach_is}
use Rattle.pm_lab_words.specs.declared.request.Bounds.{Bounds}
use Rattle.pm_outcomes.specs.list.Listing.{round_of}
use Rattle.pm_model.specs.declared.event.Line.{Line}
use Rattle.pm_model.specs.declared.plan.Plan.{Plan}
use Rattle.pm_explore.specs.declared.schedule.Pace.{Pace}
use Rattle.pm_explore.specs.schedule.Schedules.{IsSchedule, preemptions, snapshot}
use Rattle.pm_explore.specs.schedule.Snapshots.{Snapshot}
use Rattle.pm_outcomes.specs.text.Reached.{reach_of}
use Rattle.pm_outcomes.specs.declared.text.reach.Reach.{Reach}
use Rattle.pm_outcomes.specs.declared.find.finding.Outcomes.{Outcomes}
use Rattle.pm_explore.specs.search.Seen.{IsSeen}
use Rattle.pm_explore.specs.state.SnapshotOf.{snapshot_of}
use Rattle.pm_outcomes.specs.paths.Found.{IsTooFar}
use Rattle.pm_outcomes.specs.paths.Runs.{IsAsLed, IsScheduleTo}

-- over a plan that was read, with a read that failed later
pub came_of_read : (all : Bool) (known : Option (List ℕ)) (file : List ℕ) (plan : Plan) (Ends : Plan → Ending → Type 0) (U V : Type 0) (out : Taking) (work : Work) → (U → V) → IsRead all known plan → CameTo (Ends plan) work U out
    → CameTo (OfPlan all known file Ends) work V out
came_of_read all known file plan Ends U V out work later reads came =
    came_further (Ends plan) (OfPlan all known file Ends) U V (λ ending ends. held reads.bytes reads.holds ending (plan_read plan reads.is ending ends)) later out work came

-- over what a file expects
pub came_expected : (all : Bool) (known : Option (List ℕ)) (file : List ℕ) (Ends : Plan → List ℕ → Expectations → Ending → Type 0) (plan : Plan) (text : List ℕ) (expected : Expectations) (V : Type 0) (out : Taking) (work : Work)
    → AreRead all known plan text expected → CameTo (Ends plan text expected) work ⊥ out → CameTo (OfExpectations all known file Ends plan) work V out
came_expected all known file Ends plan text expected V out work are came =
    came_further (Ends plan text expected) (OfExpectations all known file Ends plan) ⊥ V (λ ending ends. read text expected are ending ends) (λ none. absurd none) out work came

-- a file of expectations that isn't read
pub came_unread_file : (all : Bool) (known : Option (List ℕ)) (file : List ℕ) (Ends : Plan → List ℕ → Expectations → Ending → Type 0) (plan : Plan) (f : Fault) (Unread : Type 0) (out : Taking) (work : Work)
    → IsNotRead all known file plan Unread f → IsToldOfFile f work out → CameTo (OfExpectations all known file Ends plan) work Unread out
came_unread_file all known file Ends plan f Unread out (Ok told) is t = unread_told all known file Ends plan f Unread out (Ok told) is t
came_unread_file all known file Ends plan f Unread out (Err (stop.Fault g)) is t = unread_told all known file Ends plan f Unread out (Err g) is t
came_unread_file all known file Ends plan f Unread out (Err (stop.Absent message)) is t = absurd t
came_unread_file all known file Ends plan f Unread out (Err (stop.Unseen message)) is t = absurd t

-- of an expectation that the file has
pub came_of_one : (bounds : Bounds) (index : ℕ) (plan : Plan) (text : List ℕ) (expected : Expectations) (e : Expectation) (out : Taking) (work : Work) → slice_get (all_of expected) (index - 1) ≡ Some e
    → CameTo (BreakEnds bounds plan e) work ⊥ out → CameTo (FailingEnds bounds index plan text expected) work ⊥ out
came_of_one bounds index plan text expected e out work there came =
    came_further (BreakEnds bounds plan e) (FailingEnds bounds index plan text expected) ⊥ ⊥ (λ ending ends. has e there ending ends) (λ none. none) out work came

-- of one that it hasn't
pub came_lacking : (bounds : Bounds) (index count : ℕ) (plan : Plan) (text : List ℕ) (expected : Expectations) (message : Vec ℕ Global) (out : Taking) → slice_get (all_of expected) (index - 1) ≡ None → count ≡ length (all_of expected)
    → message.items ≡ no_expectation_line index count → TookNothing out → CameTo (FailingEnds bounds index plan text expected) (Err (stop.Fault (fault.Refused message))) ⊥ out
came_lacking bounds index count plan text expected message out none count_is same nothing =
    (subst (λ (t : List ℕ). FailingEnds bounds index plan text expected (Refused t)) (sym (same ∙ ap (no_expectation_line index) count_is)) (lacks none), nothing)

-- where there is no schedule
pub came_not_broken : (bounds : Bounds) (plan : Plan) (e : Expectation) (why : Stop) (out : Taking) → IsNotBroken bounds plan e why → TookNothing out → CameTo (BreakEnds bounds plan e) (Err why) ⊥ out
came_not_broken bounds plan e (stop.Fault (fault.Refused text)) out not nothing = absurd not
came_not_broken bounds plan e (stop.Fault fault.ReadFailed) out not nothing = absurd not
came_not_broken bounds plan e (stop.Fault fault.WriteFailed) out not nothing = absurd not
came_not_broken bounds plan e (stop.Fault fault.NoMemory) out not nothing = nothing
came_not_broken bounds plan e (stop.Absent text) out not nothing = (not, nothing)
came_not_broken bounds plan e (stop.Unseen text) out not nothing = (not, nothing)

module _ (bounds : Bounds) (plan : Plan) (all : Outcomes) (e : Expectation) (f : IsFound bounds plan all) (rounds : FirstsDecideRounds) where
  -- the first snapshot, told of what was found
  found_first : (b : Option Broken) → IsFirstOf plan e (map snapshot_of all.found.tree.nodes.keys) all.found.rounds.items b → IsFirstOf plan e f.found.snapshots f.found.rounds b
  found_first b first =
      subst (λ (s : List Snapshot). IsFirstOf plan e s f.found.rounds b) (sym f.snapshots)
      (subst (λ (r : List ℕ). IsFirstOf plan e (map snapshot_of all.found.tree.nodes.keys) r b) (sym f.rounds) first)

  -- where no snapshot breaks it no schedule does
  no_order : FirstsDecideAll → IsFirstOf plan e (map snapshot_of all.found.tree.nodes.keys) all.found.rounds.items None → IsUnbroken bounds plan f.found e
  no_order whole none = record {
    within = λ k seen broken. (rounds (pace_of bounds) plan e f.found.snapshots f.found.rounds f.found.ended None (found_first None none) (are_found bounds plan f.found) k seen).1 broken;
    of_all = λ is broken.
        let some : IsSome {T = Broken} None = (whole (pace_of bounds) plan e f.found.snapshots f.found.rounds None (found_first None none) (f.found.all_schedules is)).1 broken in
        cc some;
  }

  pub none_ends : FirstsDecideAll → (known : Reach) (text : List ℕ) → IsFirstOf plan e (map snapshot_of all.found.tree.nodes.keys) all.found.rounds.items None
      → known ≡ reach_of all.found.ended (length all.found.rounds.items) → text ≡ unbroken_line plan known e → BreakEnds bounds plan e (none_ending known text)
  none_ends whole known text none known_is text_is =
      let same : known ≡ reach f.found = known_is ∙ reach_is bounds plan all f in
      subst (λ (t : List ℕ). BreakEnds bounds plan e (none_ending known t)) (sym text_is)
      (subst (λ (r : Reach). BreakEnds bounds plan e (none_ending r (unbroken_line plan r e))) (sym same) (unbroken f.found (no_order whole none)))

  module _ (b : Broken) (lines : List Line) (pace : Pace) (first : IsFirst plan e (map snapshot_of all.found.tree.nodes.keys) all.found.rounds.items b) (led : IsLedThrough bounds plan all) (is : pace ≡ pace_of bounds)
      (to : IsScheduleTo pace plan (map snapshot_of all.found.tree.nodes.keys) b.place lines) (as_led : IsAsLed pace plan (map snapshot_of all.found.tree.nodes.keys) all.found.tree.parents.items b.place lines) where
    led_by : IsAsLed (pace_of bounds) plan (map snapshot_of all.found.tree.nodes.keys) all.found.tree.parents.items b.place lines
    led_by = subst (λ (p : Pace). IsAsLed p plan (map snapshot_of all.found.tree.nodes.keys) all.found.tree.parents.items b.place lines) is as_led

    -- a schedule that leads to the first snapshot has no more preemptions than its round, where that is complete
    few_of : b.round < length all.found.rounds.items → preemptions plan (reverse lines) ≤ b.round
    few_of within =
        let ends = all.found.rounds.items in
        let r = round_of ends b.place in
        let round = first.round in
        let there = slice_get-get_or ends r 0 (omega (arith, within, round)) in
        let c = get_or ends r 0 in
        let few = led_by r (led.led r c b.place there (in_its_round ends b.place c there)) in
        omega (arith, few, round)

    -- and no more than the next round
    near_of : preemptions plan (reverse lines) ≤ min bounds.most (length all.found.rounds.items)
    near_of = led_by (min bounds.most (length all.found.rounds.items)) (led.near b.place (slice_get_within (map snapshot_of all.found.tree.nodes.keys) b.place first.stands first.there))

    fewest_of : (k : ℕ) → IsBrokenWithin (pace_of bounds) plan k e → preemptions plan (reverse lines) ≤ k
    fewest_of k broken = elim (cases_lt k (length all.found.rounds.items)) [
      | inl complete ↦
          let same : length f.found.rounds ≡ length all.found.rounds.items = ap (λ (r : List ℕ). length r) f.rounds in
          let seen : k < length f.found.rounds = omega (arith, complete, same) in
          let told : b.round ≤ k = (rounds (pace_of bounds) plan e f.found.snapshots f.found.rounds f.found.ended (Some b) (found_first (Some b) first) (are_found bounds plan f.found) k (inr seen)).1 broken in
          let few = few_of (omega (arith, told, complete)) in
          omega (arith, few, told)
      | inr past ↦ let near = near_of in omega (arith, near, past)
    ]

    pub path_is : IsPathBreaking bounds plan e lines
    path_is =
        let stands : first.stands ≡ snapshot plan (reverse lines) = some_is first.stands (snapshot plan (reverse lines)) (sym first.there ∙ to.stands) in
        record {
          lawful = to.lawful;
          fewest = record {
            breach = b.breach;
            so = record {
              is_schedule = subst (λ (p : Pace). IsSchedule p plan (reverse lines)) is to.order;
              breaks = ap (breach_at plan e) (sym stands) ∙ first.breach;
              within = let near = near_of in omega (arith, near);
              fewest = fewest_of;
            };
          };
        }

-- the path there is too long
pub far_ends : (bounds : Bounds) (plan : Plan) (all : Outcomes) (e : Expectation) (text : List ℕ) (at : ℕ) → IsFound bounds plan all → text ≡ too_far_text → IsTooFar plan all.found.tree.parents.items at → BreakEnds bounds plan e (Unseen text)
far_ends bounds plan all e text at f same far =
    subst (λ (t : List ℕ). BreakEnds bounds plan e (Unseen t)) (sym same) (too_far f.found at (subst (λ (p : List ℕ). IsTooFar plan p at) (sym f.parents) far))

-- the first place is that of a snapshot
pub place_within : (plan : Plan) (e : Expectation) (snapshots : List Snapshot) (rounds : List ℕ) (b : Broken) → IsFirst plan e snapshots rounds b → b.place < length snapshots
place_within plan e snapshots rounds b first = slice_get_within snapshots b.place first.stands first.there
