-- The run of what is told.
use Rattle.std.proofs.Common.{ℕ, ◌≡◌, ◌∙◌, ◌<◌, ◌≤◌, ◌-◌, ◌&&◌, Bool, true, false, List, [], ◌∷◌, Option, Some, None, IfOk, Result, Ok, Err, ap, length, map, nat_eq, refl, reverse, slice_get, subst, sym, if◌then◌else◌}
use Rattle.std.proofs.lemmas.List.{length-reverse, reverse-reverse}
use Rattle.std.proofs.lemmas.Option.{slice_get-map}
use Rattle.std.specs.Prelude.{option_map}
use Rattle.pm_base.specs.declared.errors.NoMemory.{NoMemory}
use Rattle.pm_driver_find.specs.Sights.{is_seen}
use Rattle.pm_driver_find.specs.declared.examined.ExaminedDriver.{ExaminedDriver}
use Rattle.pm_driver_orders.specs.Drivers.{Driver as Program}
use Rattle.pm_driver_orders.specs.DriverSchedules.{IsDriverSchedule, driver_snapshot, lines_of}
use Rattle.pm_driver_orders.specs.DriverSnapshots.{DriverFollows, DriverSnapshot, Turn, start_driver}
use Rattle.pm_driver_read.specs.declared.driver.Driver.{Driver}
use Rattle.pm_driver_rules.specs.GoingOn.{driver_of}
use Rattle.pm_driver_rules.specs.Nodes.{driver_snapshot_of}
use Rattle.pm_driver_rules.specs.declared.node.DriverNode.{DriverNode}
use Rattle.pm_driver_runs.specs.Collected.{AreCollected, collected_plan}
use Rattle.pm_driver_runs.specs.OneRun.{IsCollectedRun}
use Rattle.pm_driver_runs.specs.declared.collected.run.CollectedRun.{CollectedRun}
use Rattle.pm_driver_search.specs.Witness.{IsWitness}
use Rattle.pm_explore.specs.declared.schedule.Pace.{Pace}
use Rattle.pm_explore.specs.search.Trees.{IsTree}
use Rattle.pm_lab_words.specs.declared.driver.DriverBounds.{DriverBounds}
use Rattle.pm_model.specs.History.{History}
use Rattle.pm_model.specs.Lawful.{IsLawful}
use Rattle.pm_model.specs.declared.event.Line.{Line}
use Rattle.pm_model.specs.declared.plan.Plan.{Plan}
use Rattle.pm_driver_report.specs.Follows.{is_same_pace, pass_of}
use Rattle.pm_driver_report.specs.Passes.{ArePassesOf, AreThrough, IsPassOf, most_of, none_asked, none_left, one_through, snapshots_of, states_for}
use Rattle.pm_driver_report.specs.Report.{IsSearched, may_be_searched}
use Rattle.pm_driver_report.specs.Rules.{IsExamined}
use Rattle.pm_driver_report.specs.Witnessed.{AreFewer, IsCollectedTo, IsNotMade, IsOfSearch, IsWitnessOf, IsWitnessed, Searched, WitnessesDriver, is_searched, not_searched}
use Rattle.pm_driver_report.specs.declared.lines.DriverLine.{DriverLine}
use Rattle.pm_driver_report.specs.declared.passes.DriverPass.{DriverPass}
use Rattle.pm_driver_report.specs.declared.passes.PassAsked.{PassAsked}
use Rattle.pm_driver_report.specs.declared.searched.DriverSearch.{DriverSearch}
use Rattle.pm_driver_report.specs.declared.witness.DriverWitness.{DriverWitness}
use Rattle.pm_driver_report.specs.declared.witness.DriverWitness.TheVariants as witness
use Rattle.pm_driver_report.specs.declared.witness.WitnessedRun.{WitnessedRun}

some_is : {A : Type 0} (x y : A) → Some x ≡ Some y → x ≡ y
some_is x y is = cc is

-- a pass that is found is one of those that were gone through
pub record WasThrough (E : ExaminedDriver) (most : ℕ) (pass : DriverPass) : Type 0 where
  pub asked : PassAsked
  pub states : ℕ
  pub is : IsPassOf E asked most states pass

through_found : {E : ExaminedDriver} {most left : ℕ} {asked : List PassAsked} {passes : List DriverPass} → AreThrough E most left asked passes → (p : Pace) (failures : ℕ) (pass : DriverPass) → pass_of passes p failures ≡ Some pass → WasThrough E most pass
through_found (none_asked left) p failures pass is = absurd (cc is)
through_found (none_left asked) p failures pass is = absurd (cc is)
through_found {E} {most} (one_through left first asked got passes some own more) p failures pass is = go (is_same_pace got.pace p && nat_eq got.failures failures) is (λ there. through_found more p failures pass there)
  where
    go : (b : Bool) → (if b then Some got else pass_of passes p failures) ≡ Some pass → (pass_of passes p failures ≡ Some pass → WasThrough E most pass) → WasThrough E most pass
    go true here later = record { asked = first; states = states_for first left; is = subst (IsPassOf E first most (states_for first left)) (some_is got pass here) own }
    go false there later = later there

pub passes_found : (E : ExaminedDriver) (bounds : DriverBounds) (passes : List DriverPass) → ArePassesOf E bounds passes → (p : Pace) (failures : ℕ) (pass : DriverPass) → pass_of passes p failures ≡ Some pass → WasThrough E (most_of bounds.most) pass
passes_found E bounds passes through p failures pass is = through_found through p failures pass is

-- the schedule shows it where the node does
pub is_witness_of : (E : ExaminedDriver) (bounds : DriverBounds) (passes : List DriverPass) (told : DriverLine) (pass : DriverPass) (node : DriverNode) (lines : List Line) → ArePassesOf E bounds passes → pass_of passes told.pace told.allowed ≡ Some pass
    → Some node ≡ slice_get pass.all.found.tree.nodes.keys told.place → is_seen E (driver_snapshot_of node) told.sight ≡ true
    → IsWitness pass.pace (driver_of E.rules.now) pass.failures (snapshots_of pass) pass.all.found.tree.parents.items told.place lines → IsWitnessOf E passes told lines
is_witness_of E bounds passes told pass node lines through is there seen schedule =
    let was = passes_found E bounds passes through told.pace told.allowed pass is in
    let at : slice_get (snapshots_of pass) told.place ≡ Some (driver_snapshot_of node) = slice_get-map driver_snapshot_of pass.all.found.tree.nodes.keys told.place ∙ ap (option_map driver_snapshot_of) (sym there) in
    let same : driver_snapshot_of node ≡ driver_snapshot (driver_of E.rules.now) schedule.turns = some_is (driver_snapshot_of node) (driver_snapshot (driver_of E.rules.now) schedule.turns) (sym at ∙ schedule.stands) in
    record {
      pass = pass;
      is_pass = is;
      schedule = schedule;
      shows = subst (λ (s : DriverSnapshot). is_seen E s told.sight ≡ true) same seen;
      few = λ k bound round lt. schedule.few k (was.is.led k bound told.place round lt);
    }

-- its lines are lawful for the plan of what they call and answer
abbrev pub LawfulWhereCollected : Type 0
LawfulWhereCollected = (pace : Pace) (D : Program) (most : ℕ) (turns : List Turn) (law : AreCollected D (lines_of turns)) → length (lines_of turns) ≤ D.plan.lines → IsDriverSchedule pace D most turns → IsLawful (collected_plan D (lines_of turns) law) (lines_of turns)

lawful_run : (pace : Pace) (D : Program) (most : ℕ) (turns : List Turn) (run : CollectedRun) → LawfulWhereCollected → IsDriverSchedule pace D most turns → (h : History) → lines_of turns ≡ h → IsCollectedRun D.plan h run → length h ≤ D.plan.lines → IsLawful run.plan h
lawful_run pace D most turns run law schedule h same is short =
    subst (λ (l : History). IsCollectedRun D.plan l run → length l ≤ D.plan.lines → IsLawful run.plan l) same
    (λ own few. subst (λ (p : Plan). IsLawful p (lines_of turns)) (sym own.plan) (law pace D most turns own.law few schedule)) is short

pub shows_line : (d : Driver) (E : ExaminedDriver) (bounds : DriverBounds) (notes : Bool) (search : DriverSearch) (number : ℕ) (told : DriverLine) (lines : List Line) (made : WitnessedRun) → LawfulWhereCollected → IsExamined d E → IsSearched d E bounds notes search
    → slice_get search.told.items (number - 1) ≡ Some told → IsWitnessOf E search.passes.items told lines → IsCollectedTo E.rules.now.plan.now lines made → IsWitnessed d bounds notes number made
shows_line d E bounds notes search number told lines made law of_driver searched is_told shown collected =
    let D = driver_of E.rules.now in
    let own = collected.collected in
    let short = collected.short in
    let h = reverse made.lines.items in
    let same : lines_of shown.schedule.turns ≡ h = sym (ap reverse collected.lines_are ∙ ap reverse shown.schedule.are ∙ reverse-reverse (lines_of shown.schedule.turns)) in
    record {
      of = record { examined = E; of_driver = of_driver; search = search; is_searched = searched };
      told = told;
      is_told = is_told;
      shown = subst (IsWitnessOf E search.passes.items told) (sym collected.lines_are) shown;
      collected = own;
      lawful = lawful_run shown.pass.pace D shown.pass.failures shown.schedule.turns made.run law shown.schedule.schedule h same own (subst (λ n. n ≤ E.rules.now.plan.now.lines) (sym (length-reverse made.lines.items)) short);
    }

pub is_too_long : (d : Driver) (E : ExaminedDriver) (bounds : DriverBounds) (notes : Bool) (search : DriverSearch) (number : ℕ) (told : DriverLine) → IsExamined d E → IsSearched d E bounds notes search → slice_get search.told.items (number - 1) ≡ Some told → IsNotMade d bounds notes number
is_too_long d E bounds notes search number told of_driver searched is_told = record { of = record { examined = E; of_driver = of_driver; search = search; is_searched = searched }; told = told; is_told = is_told }

pub are_fewer : (d : Driver) (E : ExaminedDriver) (bounds : DriverBounds) (notes : Bool) (search : DriverSearch) (number count : ℕ) → IsExamined d E → IsSearched d E bounds notes search → slice_get search.told.items (number - 1) ≡ None → count ≡ length search.told.items → AreFewer d bounds notes number count
are_fewer d E bounds notes search number count of_driver searched lacks many = record { of = record { examined = E; of_driver = of_driver; search = search; is_searched = searched }; lacks = lacks; many = many }

pub witnesses_searched : (d : Driver) (bounds : DriverBounds) (notes : Bool) (number : ℕ) (work : Result DriverWitness NoMemory) → may_be_searched d ≡ true → IfOk work (IsOfSearch d bounds notes number) → IfOk work (WitnessesDriver d bounds notes number)
witnesses_searched d bounds notes number (Ok found) may is = is_searched found may is
witnesses_searched d bounds notes number (Err e) may is = tt

pub witnesses_none : (d : Driver) (bounds : DriverBounds) (notes : Bool) (number : ℕ) → may_be_searched d ≡ false → WitnessesDriver d bounds notes number witness.Refused
witnesses_none d bounds notes number isnt = not_searched isnt

-- the tree of a pass that was gone through
pub tree_of : (E : ExaminedDriver) (bounds : DriverBounds) (passes : List DriverPass) → ArePassesOf E bounds passes → (p : Pace) (failures : ℕ) (pass : DriverPass) → pass_of passes p failures ≡ Some pass
    → IsTree (DriverFollows pass.pace (driver_of E.rules.now) pass.failures) (start_driver (driver_of E.rules.now)) (snapshots_of pass) pass.all.found.tree.parents.items
tree_of E bounds passes through p failures pass is = let was = passes_found E bounds passes through p failures pass is in was.is.tree
