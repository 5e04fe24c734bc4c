-- What `order FILE finding N` comes to.
use Rattle.std.proofs.Common.{◌≡◌, ◌∙◌, ℕ, Bool, true, false, List, Option, Ok, Err, Vec, Global, ap, reverse, subst, sym}
use Rattle.pm_cmd_ends.specs.Ending.{Taking, TookNothing}
use Rattle.pm_cmd_ends.specs.Reading.{Holds}
use Rattle.pm_cmd_lab.specs.ends.Coming.{Came, IsUnheld, Writes, ending_of}
use Rattle.pm_cmd_lab.specs.ends.Coming.{Work as EndsWork}
use Rattle.pm_cmd_lab.specs.ends.Ending.{Done, Ending, Refused, Unseen}
use Rattle.pm_cmd_lab.specs.ends.Reading.{held, too_long}
use Rattle.pm_cmd_lab.specs.declared.ends.ending.Fault.{Fault}
use Rattle.pm_cmd_lab.specs.declared.ends.ending.Fault.TheVariants as fault
use Rattle.pm_cmd_lab.specs.declared.ends.ending.Outcome.{Outcome}
use Rattle.pm_cmd_lab.specs.declared.ends.ending.Outcome.TheVariants as outcome
use Rattle.pm_cmd_lab.specs.declared.order.finding.FindingAsked.{FindingAsked}
use Rattle.pm_cmd_lab.specs.declared.order.stop.Stop.{Stop}
use Rattle.pm_cmd_lab.specs.declared.order.stop.Stop.TheVariants as stop
use Rattle.pm_cmd_lab.specs.order.Finding.{FindingEnds, FindingEndsOf, IsRunOfWitness, OfFinding, OfWitness, by_lists, fewer, its_plan, no_driver, not_made, of_driver, run, shown, too_far}
use Rattle.pm_cmd_lab.specs.order.Order.{run_ending}
use Rattle.pm_cmd_lab.specs.order.Work.{CameTo, Work, outcome_of_end}
use Rattle.pm_cmd_lab.proofs.ends.EndLemmas.{came_weaker}
use Rattle.pm_cmd_lab.proofs.order.ShownLemmas.{ending_is}
use Rattle.pm_cmd_lab.proofs.order.WorkLemmas.{came_further}
use Rattle.pm_driver_read.specs.Drivers.{contents_in}
use Rattle.pm_driver_read.specs.Drivers.{driver_of as driver_in}
use Rattle.pm_driver_read.specs.declared.driver.Driver.{Driver}
use Rattle.pm_driver_read.specs.declared.refusal.DriverRefusal.{DriverRefusal}
use Rattle.pm_driver_report.specs.Report.{lists_text, may_be_searched}
use Rattle.pm_driver_report.specs.Texts.{no_finding_line, unmade_line}
use Rattle.pm_driver_report.specs.Witnessed.{AreFewer, IsNotMade, IsOfSearch, IsWitnessed, WitnessesDriver, is_searched, not_searched}
use Rattle.pm_driver_report.specs.declared.witness.DriverWitness.{DriverWitness}
use Rattle.pm_driver_report.specs.declared.witness.DriverWitness.TheVariants as witness
use Rattle.pm_driver_report.specs.declared.witness.WitnessedRun.{WitnessedRun}
use Rattle.pm_model.specs.FirstBad.{AreLinesOf}
use Rattle.pm_model.specs.History.{History}
use Rattle.pm_model.specs.Lawful.{IsLawful}
use Rattle.pm_model.specs.Text.{text}
use Rattle.pm_model.specs.declared.event.Line.{Line}
use Rattle.pm_model.specs.declared.plan.Plan.{Plan}
use Rattle.pm_outcomes.specs.witness.Going.{GoesOnFrom}
use Rattle.pm_say.specs.declared.told.Said.{Said}
use Rattle.pm_say_driver.specs.Told.{SaysFile}
use Rattle.pm_serial.specs.declared.running.End.{End}

-- a file whose bytes aren't read whole, before anything is written
pub finding_unheld : (all : Bool) (known : Option (List ℕ)) (file : List ℕ) (asked : FindingAsked) (Unread : Type 0) (out : Taking) (f : Fault) → IsUnheld all known file Unread f → TookNothing out
    → CameTo (FindingEnds all known file asked) (Err (stop.Fault f)) Unread out
finding_unheld all known file asked Unread out (fault.Refused message) unheld nothing = (too_long unheld.0 message.items unheld.1, nothing)
finding_unheld all known file asked Unread out fault.ReadFailed unheld nothing = (unheld, nothing)
finding_unheld all known file asked Unread out fault.WriteFailed unheld nothing = absurd unheld
finding_unheld all known file asked Unread out fault.NoMemory unheld nothing = nothing

-- the work over its bytes, which were handed on
pub finding_held : (all : Bool) (known : Option (List ℕ)) (file bytes handed : List ℕ) (asked : FindingAsked) (Unread : Type 0) (out : Taking) (work : Work) → Holds all known 1048576 bytes → handed ≡ bytes
    → CameTo (FindingEndsOf file asked handed) work ⊥ out → CameTo (FindingEnds all known file asked) work Unread out
finding_held all known file bytes handed asked Unread out work holds same came =
    came_further (FindingEndsOf file asked handed) (FindingEnds all known file asked) ⊥ Unread
    (λ ending ends. held bytes holds ending (subst (λ (x : List ℕ). FindingEndsOf file asked x ending) same ends)) (λ none. absurd none) out work came

-- that over a driver that was read
pub finding_read : (file bytes : List ℕ) (asked : FindingAsked) (d : Driver) (out : Taking) (work : Work) → driver_in bytes ≡ Ok (contents_in d) → CameTo (OfFinding file d asked) work ⊥ out → CameTo (FindingEndsOf file asked bytes) work ⊥ out
finding_read file bytes asked d out work is came = came_further (OfFinding file d asked) (FindingEndsOf file asked bytes) ⊥ ⊥ (λ ending ends. of_driver d is ending ends) (λ none. none) out work came

-- a driver that is refused
pub finding_refused : (file handed_file bytes : List ℕ) (asked : FindingAsked) (r : DriverRefusal) (said : Said) → driver_in bytes ≡ Err r → SaysFile handed_file bytes said → handed_file ≡ file → FindingEndsOf file asked bytes (Refused said.text.items)
finding_refused file handed_file bytes asked r said is_refused says same = no_driver r is_refused said (subst (λ (name : List ℕ). SaysFile name bytes said) same says)

-- what was found, by its variant
pub found_shown : (d : Driver) (asked : FindingAsked) (found : DriverWitness) (made : WitnessedRun) → found ≡ witness.Shown made → WitnessesDriver d asked.bounds asked.notes asked.number found → IsWitnessed d asked.bounds asked.notes asked.number made
found_shown d asked _ made is (not_searched isnt) = absurd (cc is)
found_shown d asked _ made is (is_searched found may of) = subst (IsOfSearch d asked.bounds asked.notes asked.number) is of

pub found_fewer : (d : Driver) (asked : FindingAsked) (found : DriverWitness) (count : ℕ) → found ≡ witness.Fewer count → WitnessesDriver d asked.bounds asked.notes asked.number found → AreFewer d asked.bounds asked.notes asked.number count
found_fewer d asked _ count is (not_searched isnt) = absurd (cc is)
found_fewer d asked _ count is (is_searched found may of) = subst (IsOfSearch d asked.bounds asked.notes asked.number) is of

pub found_unmade : (d : Driver) (asked : FindingAsked) (found : DriverWitness) → found ≡ witness.TooLong → WitnessesDriver d asked.bounds asked.notes asked.number found → IsNotMade d asked.bounds asked.notes asked.number
found_unmade d asked _ is (not_searched isnt) = absurd (cc is)
found_unmade d asked _ is (is_searched found may of) = subst (IsOfSearch d asked.bounds asked.notes asked.number) is of

pub found_by_lists : (d : Driver) (asked : FindingAsked) (found : DriverWitness) → found ≡ witness.Refused → WitnessesDriver d asked.bounds asked.notes asked.number found → may_be_searched d ≡ false
found_by_lists d asked _ is (not_searched isnt) = isnt
found_by_lists d asked _ is (is_searched found may of) = absurd (subst (IsOfSearch d asked.bounds asked.notes asked.number) is of)

-- each of them as an ending
pub came_shown : (file : List ℕ) (d : Driver) (asked : FindingAsked) (made : WitnessedRun) (out : Taking) (work : Work) → IsWitnessed d asked.bounds asked.notes asked.number made → CameTo (OfWitness asked.plan made) work ⊥ out → CameTo (OfFinding file d asked) work ⊥ out
came_shown file d asked made out work is came = came_further (OfWitness asked.plan made) (OfFinding file d asked) ⊥ ⊥ (λ ending ends. shown made is ending ends) (λ none. none) out work came

pub ends_fewer : (file : List ℕ) (d : Driver) (asked : FindingAsked) (count : ℕ) (message : List ℕ) → AreFewer d asked.bounds asked.notes asked.number count → message ≡ no_finding_line asked.number count → OfFinding file d asked (Refused message)
ends_fewer file d asked count message are is = subst (λ (x : List ℕ). OfFinding file d asked (Refused x)) (sym is) (fewer count are)

pub ends_unmade : (file : List ℕ) (d : Driver) (asked : FindingAsked) (message : List ℕ) → IsNotMade d asked.bounds asked.notes asked.number → message ≡ unmade_line → OfFinding file d asked (Unseen message)
ends_unmade file d asked message isnt is = subst (λ (x : List ℕ). OfFinding file d asked (Unseen x)) (sym is) (not_made isnt)

pub ends_by_lists : (file handed_file : List ℕ) (d : Driver) (asked : FindingAsked) (message : List ℕ) → may_be_searched d ≡ false → message ≡ lists_text handed_file → handed_file ≡ file → OfFinding file d asked (Refused message)
ends_by_lists file handed_file d asked message isnt is same = subst (λ (x : List ℕ). OfFinding file d asked (Refused x)) (sym (is ∙ ap lists_text same)) (by_lists isnt)

-- the plan, written
pub plan_written : (made : WitnessedRun) (plan : Bool) (piece : List ℕ) (out : Taking) (work : EndsWork) → plan ≡ true → piece ≡ made.run.text.items → Came (Writes outcome.Done piece) work ⊥ out → Came (OfWitness plan made) work ⊥ out
plan_written made plan piece out work is same came =
    came_weaker (Writes outcome.Done piece) (OfWitness plan made) ⊥ ⊥ (λ ending ends. subst (OfWitness plan made) (sym (ends ∙ ap Done same)) (its_plan is)) (λ none. none) out work came

pub run_unseen : (made : WitnessedRun) (message : List ℕ) → message ≡ unmade_line → OfWitness false made (Unseen message)
run_unseen made message same = subst (λ (x : List ℕ). OfWitness false made (Unseen x)) (sym same) (too_far (λ i. false))

-- the run, written
is_run : (made : WitnessedRun) (spelled : Plan) (lines : List Line) (h : History) (ended : End) → spelled ≡ made.run.plan → reverse lines ≡ h → IsLawful spelled h → AreLinesOf spelled h → GoesOnFrom made.run.plan (reverse made.lines.items) h ended → IsRunOfWitness made lines ended
is_run made spelled lines h ended same lines_are lawful of_plan goes = record {
  lawful = subst (IsLawful made.run.plan) (sym lines_are) (subst (λ (q : Plan). IsLawful q h) same lawful);
  of_plan = subst (AreLinesOf made.run.plan) (sym lines_are) (subst (λ (q : Plan). AreLinesOf q h) same of_plan);
  goes_on = subst (λ (l : History). GoesOnFrom made.run.plan (reverse made.lines.items) l ended) (sym lines_are) goes;
}

pub run_written : (made : WitnessedRun) (spelled shown_plan : Plan) (lines : List Line) (h : History) (ended : End) (told : Outcome) (out : Taking) (work : EndsWork) → spelled ≡ made.run.plan → shown_plan ≡ spelled → reverse lines ≡ h → IsLawful spelled h → AreLinesOf spelled h
    → GoesOnFrom made.run.plan (reverse made.lines.items) h ended → told ≡ outcome_of_end ended → Came (Writes told (text shown_plan lines)) work ⊥ out → Came (OfWitness false made) work ⊥ out
run_written made spelled shown_plan lines h ended told out work same shown_is lines_are lawful of_plan goes told_is came =
    came_weaker (Writes told (text shown_plan lines)) (OfWitness false made) ⊥ ⊥
    (λ ending is. subst (OfWitness false made) (sym (is ∙ ends)) (run (λ i. false) lines ended (is_run made spelled lines h ended same lines_are lawful of_plan goes))) (λ none. none) out work came
  where
    ends : ending_of told (text shown_plan lines) ≡ run_ending ended (text made.run.plan lines)
    ends = ap (λ (o : Outcome). ending_of o (text shown_plan lines)) told_is ∙ (ending_is ended (text shown_plan lines) ∙ ap (λ (q : Plan). run_ending ended (text q lines)) (shown_is ∙ same))
