-- The run to which one thread goes on from a schedule that shows an observation.
use Rattle.std.proofs.Common.{ℕ, ◌≡◌, true, false, List, nat_eq, reverse, refl, sym, subst, ap, ◌∙◌}
use Rattle.pm_outcomes.specs.islands.Homes.{home}
use Rattle.pm_cmd_ends.specs.Ending.{Taking}
use Rattle.pm_cmd_ends.specs.Pieces.{format_of, text_in}
use Rattle.pm_cmd_ends.specs.declared.output.Format.{Format}
use Rattle.pm_cmd_lab.specs.ends.Coming.{Came, Writes, ending_of}
use Rattle.pm_cmd_lab.specs.ends.Coming.{Work as EndsWork}
use Rattle.pm_cmd_lab.specs.declared.ends.ending.Outcome.{Outcome}
use Rattle.pm_cmd_lab.proofs.ends.EndLemmas.{came_weaker}
use Rattle.pm_cmd_lab.specs.order.Order.{ObservationEnds, run_ending, shows}
use Rattle.pm_cmd_lab.specs.order.Showing.{IsShowing}
use Rattle.pm_cmd_lab.specs.order.Work.{IsPathTo, outcome_of_end}
use Rattle.pm_lab_words.specs.declared.request.Bounds.{Bounds}
use Rattle.pm_laws.specs.islands.Apart.{StandAlike}
use Rattle.pm_outcomes.specs.declared.list.observations.Observation.{Observation}
use Rattle.pm_model.specs.declared.event.Line.{Line}
use Rattle.pm_model.specs.declared.plan.Plan.{Plan}
use Rattle.pm_model.specs.FirstBad.{AreLinesOf}
use Rattle.pm_model.specs.History.{History}
use Rattle.pm_model.specs.Lawful.{IsLawful}
use Rattle.pm_model.specs.Text.{text}
use Rattle.pm_model.specs.World.{world}
use Rattle.pm_serial.specs.declared.running.End.{End}
use Rattle.pm_serial.specs.declared.running.End.TheVariants as end
use Rattle.pm_outcomes.specs.witness.Going.{GoesOnFrom}

-- the text in the plan's own format
own_format : (plan : Plan) (lines : List Line) → text_in (format_of plan) plan lines ≡ text plan lines
own_format plan lines =
    elim (nat_eq plan.trace 2) as (λ b. nat_eq plan.trace 2 ≡ b → text_in (format_of plan) plan lines ≡ text plan lines) [
      | true ↦ λ two. rw two refl
      | false ↦ λ one. rw one refl
    ] refl

pub spelled_text : (plan spelled : Plan) (lines : List Line) (format : Format) → spelled ≡ plan → format ≡ format_of plan → text_in format spelled lines ≡ text plan lines
spelled_text plan spelled lines format spelled_is format_is =
    ap (λ (q : Plan). text_in format q lines) spelled_is ∙ ap (λ (f : Format). text_in f plan lines) format_is ∙ own_format plan lines

-- what a book shows of the run
is_showing : (bounds : Bounds) (plan spelled : Plan) (observation : Observation) (given lines : List Line) (h : History) (e : End) (path : IsPathTo bounds plan observation given)
    → StandAlike plan path.at.numbering.island (home path.at.numbering.island observation) (world plan (reverse given)) (world path.part (reverse given)) → spelled ≡ plan → reverse lines ≡ h → IsLawful spelled h → AreLinesOf spelled h
    → GoesOnFrom plan (reverse given) h e → IsShowing bounds plan observation path.part path.at path.found lines e
is_showing bounds plan spelled observation given lines h e path stands same lines_are lawful of_plan goes = record {
  lawful = subst (IsLawful plan) (sym lines_are) (subst (λ (q : Plan). IsLawful q h) same lawful);
  of_plan = subst (AreLinesOf plan) (sym lines_are) (subst (λ (q : Plan). AreLinesOf q h) same of_plan);
  order = reverse given;
  fewest = path.fewest;
  stands = stands;
  goes_on = subst (λ (l : History). GoesOnFrom plan (reverse given) l e) (sym lines_are) goes;
}

-- its ending
pub ending_is : (e : End) (trace : List ℕ) → ending_of (outcome_of_end e) trace ≡ run_ending e trace
ending_is end.Finished trace = refl
ending_is end.AtLimit trace = refl

pub shown_written : (bounds : Bounds) (plan spelled shown : Plan) (observation : Observation) (given lines : List Line) (h : History) (e : End) (told : Outcome) (out : Taking) (work : EndsWork) (path : IsPathTo bounds plan observation given)
    → StandAlike plan path.at.numbering.island (home path.at.numbering.island observation) (world plan (reverse given)) (world path.part (reverse given)) → spelled ≡ plan → shown ≡ spelled → reverse lines ≡ h
    → IsLawful spelled h → AreLinesOf spelled h → GoesOnFrom plan (reverse given) h e → told ≡ outcome_of_end e → Came (Writes told (text shown lines)) work ⊥ out → Came (ObservationEnds bounds plan observation) work ⊥ out
shown_written bounds plan spelled shown observation given lines h e told out work path stands same shown_is lines_are lawful of_plan goes told_is came =
    came_weaker (Writes told (text shown lines)) (ObservationEnds bounds plan observation) ⊥ ⊥
    (λ ending is. subst (ObservationEnds bounds plan observation) (sym (is ∙ ends)) (shows path.part path.at path.found lines e (is_showing bounds plan spelled observation given lines h e path stands same lines_are lawful of_plan goes)))
    (λ none. none) out work came
  where
    ends : ending_of told (text shown lines) ≡ run_ending e (text plan lines)
    ends = ap (λ (o : Outcome). ending_of o (text shown lines)) told_is ∙ (ending_is e (text shown lines) ∙ ap (λ (q : Plan). run_ending e (text q lines)) (shown_is ∙ same))
