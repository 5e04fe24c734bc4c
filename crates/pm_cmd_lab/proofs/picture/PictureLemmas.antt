-- What `picture` comes to.
use Rattle.std.proofs.Common.{◌≡◌, ◌∙◌, ℕ, Bool, List, Option, Err, Vec, Global, ap, subst, sym}
use Rattle.std.specs.Prelude.{IsSome}
use Rattle.pm_cmd_ends.specs.Coming.{trace_too_long}
use Rattle.pm_cmd_ends.specs.Ending.{Taking, TookNothing}
use Rattle.pm_cmd_ends.specs.Reading.{IsRead, IsTooLong}
use Rattle.pm_cmd_lab.specs.picture.Drawing.{IsDrawn}
use Rattle.pm_cmd_lab.specs.declared.picture.telling.Drawn.{Drawn}
use Rattle.pm_model.specs.declared.plan.Plan.{Plan}
use Rattle.pm_cmd_lab.specs.ends.Coming.{Came, Work, Writes, ending_of}
use Rattle.pm_cmd_lab.specs.ends.Ending.{OfThis, Refused}
use Rattle.pm_cmd_lab.specs.declared.ends.ending.Fault.TheVariants as fault
use Rattle.pm_cmd_lab.specs.declared.ends.ending.Outcome.{Outcome}
use Rattle.pm_cmd_lab.proofs.ends.EndLemmas.{came_weaker}
use Rattle.pm_cmd_lab.specs.picture.Picture.{DrawnEnds, OfPicture, PictureUnread, of_trace, outcome_of_picture, plan_unread, too_many, trace_unread}

-- what was drawn, written
pub drawn_written : (piece : List ℕ) (drawn : Drawn) (outcome : Outcome) (out : Taking) (work : Work) → outcome ≡ outcome_of_picture drawn.is_lawful → piece ≡ drawn.text.items
    → Came (Writes outcome piece) work ⊥ out → Came (DrawnEnds drawn) work ⊥ out
drawn_written piece drawn outcome out work same_outcome same came =
    came_weaker (Writes outcome piece) (DrawnEnds drawn) ⊥ ⊥
    (λ ending is. is ∙ (ap (λ (o : Outcome). ending_of o piece) same_outcome ∙ ap (λ (text : List ℕ). ending_of (outcome_of_picture drawn.is_lawful) text) same))
    (λ none. none) out work came

-- of the trace's file
pub drawn_of_file : (all : Bool) (known : Option (List ℕ)) (file : List ℕ) (json : Bool) (plan : Plan) (drawn : Drawn) (Unread : Type 0) (out : Taking) (work : Work)
    → IsDrawn all known plan file json drawn → Came (DrawnEnds drawn) work ⊥ out → Came (OfPicture all known file json plan) work Unread out
drawn_of_file all known file json plan drawn Unread out work is came =
    came_weaker (DrawnEnds drawn) (OfPicture all known file json plan) ⊥ Unread (λ ending ends. of_trace drawn is ending ends) (λ none. absurd none) out work came

-- a trace that is too long
pub long_refused : (all : Bool) (known : Option (List ℕ)) (file : List ℕ) (json : Bool) (plan : Plan) (text : Vec ℕ Global) (Unread : Type 0) (out : Taking)
    → IsTooLong all known 67108864 → text.items ≡ trace_too_long → TookNothing out → Came (OfPicture all known file json plan) (Err (fault.Refused text)) Unread out
long_refused all known file json plan text Unread out long same nothing =
    (subst (λ (bytes : List ℕ). OfPicture all known file json plan (Refused bytes)) (sym same) (too_many long), nothing)

-- which file's read failed
pub plan_failed : (all : Bool) (known : Option (List ℕ)) (plan trace name : List ℕ) (Alone Failed : Type 0) → (IsSome known → Alone) → OfThis plan Failed name → PictureUnread all known plan trace Alone Failed name
plan_failed all known plan trace name Alone Failed alone this =
    subst (λ (file : List ℕ). PictureUnread all known plan trace Alone Failed file) (sym this.0) (plan_unread alone this.1)

pub trace_failed : (all : Bool) (known : Option (List ℕ)) (plan trace name : List ℕ) (read : Plan) (Alone Failed : Type 0) → IsRead all known read → OfThis trace Failed name → PictureUnread all known plan trace Alone Failed name
trace_failed all known plan trace name read Alone Failed is this =
    subst (λ (file : List ℕ). PictureUnread all known plan trace Alone Failed file) (sym this.0) (trace_unread read is this.1)
