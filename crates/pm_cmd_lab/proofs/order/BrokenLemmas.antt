-- The run to which one thread goes on from a schedule that breaks an expectation.
use Rattle.std.proofs.Common.{◌≡◌, List, reverse, sym, subst, ap, ◌∙◌}
use Rattle.pm_expect_report.specs.declared.broken.expectation.Expectation.{Expectation}
use Rattle.pm_cmd_ends.specs.Ending.{Taking}
use Rattle.pm_cmd_lab.specs.ends.Coming.{Came, Writes, ending_of}
use Rattle.pm_cmd_lab.specs.ends.Coming.{Work as EndsWork}
use Rattle.pm_cmd_lab.specs.declared.ends.ending.Outcome.{Outcome}
use Rattle.pm_cmd_lab.proofs.ends.EndLemmas.{came_weaker}
use Rattle.pm_cmd_lab.specs.order.Failing.{BreakEnds, IsBreaking, IsPathBreaking, breaks}
use Rattle.pm_cmd_lab.specs.order.Order.{run_ending}
use Rattle.pm_cmd_lab.specs.order.Work.{outcome_of_end}
use Rattle.pm_cmd_lab.proofs.order.ShownLemmas.{ending_is}
use Rattle.pm_lab_words.specs.declared.request.Bounds.{Bounds}
use Rattle.pm_model.specs.declared.event.Line.{Line}
use Rattle.pm_model.specs.declared.plan.Plan.{Plan}
use Rattle.pm_model.specs.FirstBad.{AreLinesOf}
use Rattle.pm_model.specs.History.{History}
use Rattle.pm_model.specs.Lawful.{IsLawful}
use Rattle.pm_model.specs.Text.{text}
use Rattle.pm_serial.specs.declared.running.End.{End}
use Rattle.pm_outcomes.specs.witness.Going.{GoesOnFrom}

-- what a book shows of the run
is_breaking : (bounds : Bounds) (plan spelled : Plan) (e : Expectation) (given lines : List Line) (h : History) (ended : End) (path : IsPathBreaking bounds plan e given) → spelled ≡ plan → reverse lines ≡ h → IsLawful spelled h → AreLinesOf spelled h
    → GoesOnFrom plan (reverse given) h ended → IsBreaking bounds plan e lines ended
is_breaking bounds plan spelled e given lines h ended path same lines_are lawful of_plan goes = record {
  lawful = subst (IsLawful plan) (sym lines_are) (subst (λ (q : Plan). IsLawful q h) same lawful);
  of_plan = subst (AreLinesOf plan) (sym lines_are) (subst (λ (q : Plan). AreLinesOf q h) same of_plan);
  order = reverse given;
  fewest = path.fewest;
  goes_on = subst (λ (l : History). GoesOnFrom plan (reverse given) l ended) (sym lines_are) goes;
}

pub broken_written : (bounds : Bounds) (plan spelled shown : Plan) (e : Expectation) (given lines : List Line) (h : History) (ended : End) (told : Outcome) (out : Taking) (work : EndsWork) → IsPathBreaking bounds plan e given → spelled ≡ plan → shown ≡ spelled → reverse lines ≡ h
    → IsLawful spelled h → AreLinesOf spelled h → GoesOnFrom plan (reverse given) h ended → told ≡ outcome_of_end ended → Came (Writes told (text shown lines)) work ⊥ out → Came (BreakEnds bounds plan e) work ⊥ out
broken_written bounds plan spelled shown e given lines h ended told out work path same shown_is lines_are lawful of_plan goes told_is came =
    came_weaker (Writes told (text shown lines)) (BreakEnds bounds plan e) ⊥ ⊥
    (λ ending is. subst (BreakEnds bounds plan e) (sym (is ∙ ends)) (breaks lines ended (is_breaking bounds plan spelled e given lines h ended path same lines_are lawful of_plan goes)))
    (λ none. none) out work came
  where
    ends : ending_of told (text shown lines) ≡ run_ending ended (text plan lines)
    ends = ap (λ (o : Outcome). ending_of o (text shown lines)) told_is ∙ (ending_is ended (text shown lines) ∙ ap (λ (q : Plan). run_ending ended (text q lines)) (shown_is ∙ same))
