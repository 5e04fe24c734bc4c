-- What is said of one line, from what the judge answers.
use Rattle.std.proofs.Common.{ℕ, ◌≡◌, ◌<◌, ◌^◌, ◌&&◌, Bool, true, List, ◌∷◌, None, length, nat_lt, subst}
use Rattle.std.proofs.lemmas.Bool.{and_parts, ltb-true}
use Rattle.pm_base.specs.declared.ActorId.{ActorId}
use Rattle.pm_base.specs.declared.ActorId.TheVariants.{Caller, Work, Timer}
use Rattle.pm_model.specs.declared.event.Line.{Line}
use Rattle.pm_model.specs.declared.plan.Plan.{Plan}
use Rattle.pm_model.specs.Lawful.{Permits, last_time}
use Rattle.pm_model.specs.LineOf.{is_actor_of, is_event_of, is_line}
use Rattle.pm_model.specs.Text.{IsTextBehind}
use Rattle.pm_law_texts.proofs.Formats.{line_is}
use Rattle.pm_state.specs.Standing.{IsActor}
use Rattle.pm_book.specs.Judging.{JudgeStandsFor, Judged}
use Rattle.pm_audit.specs.Auditing.{IsRead}

-- a line of a plan is by an actor of it, at a time below 2^63
pub is_actor : (plan : Plan) (actor : ActorId) → is_actor_of (length plan.devices) (length plan.callers) actor ≡ true → IsActor plan actor
is_actor plan (Caller c) is = ltb-true c (length plan.callers) is
is_actor plan (Work d) is = ltb-true d (length plan.devices) is
is_actor plan (Timer d) is = ltb-true d (length plan.devices) is

-- and its event is one of as many devices
pub event_of_line : (devices callers : ℕ) (line : Line) → is_line devices callers line ≡ true → is_event_of devices line.event ≡ true
event_of_line devices callers line is = (and_parts (nat_lt line.time (2 ^ 63) && is_actor_of devices callers line.actor) (is_event_of devices line.event) is).1

pub can_judge : (f : Bool) (plan : Plan) (base : ℕ) (line : Line) (piece : List ℕ) → IsTextBehind f plan base line piece → IsActor plan line.actor × (line.time < 2 ^ 63)
can_judge f plan base line piece spelled =
    let devices = length plan.devices in
    let callers = length plan.callers in
    let parts = and_parts (nat_lt line.time (2 ^ 63) && is_actor_of devices callers line.actor) (is_event_of devices line.event) (line_is f plan base line piece spelled) in
    let first = and_parts (nat_lt line.time (2 ^ 63)) (is_actor_of devices callers line.actor) parts.0 in
    (is_actor plan line.actor first.1, ltb-true line.time (2 ^ 63) first.0)

-- the text of a line behind one of the same time in the same plan
pub spelled_as : (f : Bool) (p plan : Plan) (n base : ℕ) (line : Line) (piece : List ℕ) → p ≡ plan → n ≡ base → IsTextBehind f p n line piece → IsTextBehind f plan base line piece
spelled_as f p plan n base line piece same at spelled = subst (λ k. IsTextBehind f plan k line piece) at (subst (λ (q : Plan). IsTextBehind f q n line piece) same spelled)

-- the text of a line behind a judge's list
pub behind : (f : Bool) (judge : Judged) (h : List Line) (line : Line) (piece : List ℕ) → JudgeStandsFor judge h → IsTextBehind f judge.plan judge.last line piece
    → IsTextBehind f judge.plan (last_time h) line piece
behind f judge h line piece stands spelled = subst (λ n. IsTextBehind f judge.plan n line piece) stands.last_is spelled

pub read_text : (f : Bool) (judge : Judged) (h : List Line) (piece : List ℕ) → JudgeStandsFor judge h → ((line : Line) → IsTextBehind f judge.plan judge.last line piece → ⊥)
    → (line : Line) → IsTextBehind f judge.plan (last_time h) line piece → ⊥
read_text f judge h piece stands none = subst (λ n. (line : Line) → IsTextBehind f judge.plan n line piece → ⊥) stands.last_is none

pub read_ok : (f : Bool) (judge : Judged) (After : List Line → Type 0) (h : List Line) (line : Line) (piece : List ℕ) → JudgeStandsFor judge h → IsTextBehind f judge.plan judge.last line piece
    → (length h < judge.plan.lines) × Permits judge.plan h line → After (line ∷ h) → IsRead f judge.plan h piece After None
read_ok f judge After h line piece stands spelled answer taken =
    (record { line = line; spelled = behind f judge h line piece stands spelled; permits = answer.1; room = answer.0 }, taken)
