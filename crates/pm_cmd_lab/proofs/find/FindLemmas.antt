-- What `find` comes to.
use Rattle.std.proofs.Common.{◌≡◌, ◌∙◌, ℕ, Bool, List, Option, Ok, Err, Vec, Global, ap, subst, sym}
use Rattle.std.specs.Prelude.{IsSome}
use Rattle.pm_cmd_ends.specs.Coming.{trace_too_long}
use Rattle.pm_cmd_ends.specs.Ending.{Taking, TookNothing}
use Rattle.pm_cmd_ends.specs.Reading.{IsRead, IsTooLong}
use Rattle.pm_find.specs.trace.Telling.{IsTold}
use Rattle.pm_find.specs.declared.trace.telling.Found.{Found}
use Rattle.pm_model.specs.declared.plan.Plan.{Plan}
use Rattle.pm_planread.specs.PlanOf.{contents_of, plan_of}
use Rattle.pm_cmd_lab.specs.ends.Coming.{Came, Work, Writes, ending_of}
use Rattle.pm_cmd_lab.specs.ends.Ending.{OfThis, Refused}
use Rattle.pm_cmd_lab.specs.declared.ends.ending.Fault.TheVariants as fault
use Rattle.pm_cmd_lab.specs.declared.ends.ending.Outcome.{Outcome}
use Rattle.pm_cmd_lab.proofs.ends.EndLemmas.{came_weaker}
use Rattle.pm_cmd_lab.specs.find.Find.{FindEnds, FindUnread, OfFind, of_plan, of_trace, outcome_of_find, told, too_many}

-- what was found, written
pub found_written : (piece : List ℕ) (found : Found) (outcome : Outcome) (out : Taking) (work : Work) → outcome ≡ outcome_of_find found.stands_out → piece ≡ found.text.items
    → Came (Writes outcome piece) work ⊥ out → Came (FindEnds found) work ⊥ out
found_written piece found outcome out work same_outcome same came =
    came_weaker (Writes outcome piece) (FindEnds found) ⊥ ⊥
    (λ ending is. is ∙ (ap (λ (o : Outcome). ending_of o piece) same_outcome ∙ ap (λ (text : List ℕ). ending_of (outcome_of_find found.stands_out) text) same))
    (λ none. none) out work came

-- of the trace's file
pub found_of_file : (all : Bool) (known : Option (List ℕ)) (name file text named read : List ℕ) (notes : Bool) (plan : Plan) (found : Found) (Unread : Type 0) (out : Taking) (work : Work)
    → plan_of text ≡ Ok (contents_of plan) → named ≡ name → read ≡ text → IsTold all known plan (record { trace = file; plan = named; text = read }) notes found → Came (FindEnds found) work ⊥ out
    → Came (OfFind all known name file notes plan) work Unread out
found_of_file all known name file text named read notes plan found Unread out work source same_name same_text is came =
    came_weaker (FindEnds found) (OfFind all known name file notes plan) ⊥ Unread
    (λ ending ends. told text source found
    (subst (λ (n : List ℕ). IsTold all known plan (record { trace = file; plan = n; text = text }) notes found) same_name
    (subst (λ (t : List ℕ). IsTold all known plan (record { trace = file; plan = named; text = t }) notes found) same_text is)) ending ends) (λ none. absurd none) out work came

-- a trace that is too long
pub long_refused : (all : Bool) (known : Option (List ℕ)) (name file : List ℕ) (notes : Bool) (plan : Plan) (text : Vec ℕ Global) (Unread : Type 0) (out : Taking)
    → IsTooLong all known 67108864 → text.items ≡ trace_too_long → TookNothing out → Came (OfFind all known name file notes plan) (Err (fault.Refused text)) Unread out
long_refused all known name file notes plan text Unread out long same nothing =
    (subst (λ (bytes : List ℕ). OfFind all known name file notes plan (Refused bytes)) (sym same) (too_many long), nothing)

-- which file's read failed
pub plan_failed : (all : Bool) (known : Option (List ℕ)) (plan trace name : List ℕ) (Alone Failed : Type 0) → (IsSome known → Alone) → OfThis plan Failed name → FindUnread all known plan trace Alone Failed name
plan_failed all known plan trace name Alone Failed alone this =
    subst (λ (file : List ℕ). FindUnread all known plan trace Alone Failed file) (sym this.0) (of_plan alone this.1)

pub trace_failed : (all : Bool) (known : Option (List ℕ)) (plan trace name : List ℕ) (read : Plan) (Alone Failed : Type 0) → IsRead all known read → OfThis trace Failed name → FindUnread all known plan trace Alone Failed name
trace_failed all known plan trace name read Alone Failed is this =
    subst (λ (file : List ℕ). FindUnread all known plan trace Alone Failed file) (sym this.0) (of_trace read is this.1)
