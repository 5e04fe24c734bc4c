-- A line that is offered, and its text.
use Rattle.std.proofs.Common.{ℕ, ◌≡◌, ◌<◌, ◌≤◌, ◌-◌, Bool, true, false, List, ◌∷◌, ◌++◌, refl, subst, sym, ◌∙◌, ap, if◌then◌else◌, arith}
use Rattle.std.proofs.lemmas.List.{append_assoc}
use Rattle.pm_model.specs.declared.event.Event.{Event}
use Rattle.pm_model.specs.declared.event.Line.{Line}
use Rattle.pm_model.specs.declared.plan.Plan.{Plan}
use Rattle.pm_model.specs.declared.stage.Change.{Change}
use Rattle.pm_model.specs.declared.stage.Move.{Move}
use Rattle.pm_model.specs.declared.stage.Move.TheVariants.{Write}
use Rattle.pm_model.specs.declared.stage.Then.{Then}
use Rattle.pm_model.specs.LineOf.{is_line_of}
use Rattle.pm_model.specs.NoWhy.{is_within_line}
use Rattle.pm_model.specs.Spelling.{Names, event_text, line_text}
use Rattle.pm_model.specs.Text.{IsTextBehind, names_of}
use Rattle.pm_law_texts.proofs.Formats.{in_line, spelled_is}
use Rattle.pm_book.specs.Offering.{IsWrite}
use Rattle.pm_book.specs.Judging.{Judged}
use Rattle.pm_book.specs.Sometime.{Writes}
use Rattle.pm_linetext.specs.Fronts.{IsFront, front_text}
use Rattle.pm_audit.specs.Offers.{IsOffered, IsStart, base_of}
use Rattle.pm_audit.specs.declared.offers.Start.{Start}
use Rattle.pm_audit.proofs.Lines.{can_judge}

-- the text with the time since a base, which is 0 in format 1
text_behind : (f : Bool) (plan : Plan) (last base t : ℕ) (line : Line) (piece : List ℕ) → base ≡ (if f then last else 0) → is_line_of plan line ≡ true → base ≤ t → line.time ≡ t
    → line_text (names_of plan) (record line { time = t - base }) ≡ piece → IsTextBehind f plan last line piece
text_behind true plan last base t line piece at is later same spelled =
    let time : t - base ≡ line.time - last = omega (arith, at, same) in
    (is, omega (arith, at, later, same), subst (λ n. line_text (names_of plan) (record line { time = n }) ≡ piece) time spelled)
text_behind false plan last base t line piece at is later same spelled =
    let time : t - base ≡ line.time = omega (arith, at, same) in
    (is, subst (λ n. line_text (names_of plan) (record line { time = n }) ≡ piece) time spelled)

pub is_offered : (f : Bool) (j : Judged) (line : Line) (c : Change) (next : Then) (bytes behind : List ℕ) (names : Names) → names ≡ names_of j.plan → base_of f j.last ≤ line.time
    → is_line_of j.plan line ≡ true → j.lines < j.plan.lines → Writes j.plan j.world j.last line c next → bytes ≡ line_text names (record line { time = line.time - base_of f j.last }) ++ (10 ∷ behind)
    → IsOffered f j line c next bytes behind
is_offered f j line c next bytes behind names same later is room writes split =
    let base = base_of f j.last in
    let piece = line_text names (record line { time = line.time - base }) in
    let spelled = text_behind f j.plan j.last base line.time line piece refl is later refl (ap (λ (n : Names). line_text n (record line { time = line.time - base })) (sym same)) in
    let can = can_judge f j.plan j.last line piece spelled in
    let within = subst (λ (p : List ℕ). is_within_line p ≡ true) (sym (spelled_is f j.plan j.last line piece spelled)) (in_line f j.plan j.last line) in
    record { piece = piece; begins = record { split = split; within = within }; spelled = spelled; in_range = can.0; in_time = can.1; room = room; writes = writes }

-- the front of a line and its event
pub whole_line : (names : Names) (line : Line) (time : ℕ) (bytes front left : List ℕ) → front ≡ front_text names time line.actor → bytes ≡ (front ++ event_text names line.event) ++ (10 ∷ left)
    → bytes ≡ line_text names (record line { time = time }) ++ (10 ∷ left)
whole_line names line time bytes front left is begins =
    begins ∙ ap (λ (x : List ℕ). x ++ (10 ∷ left)) (ap (λ (x : List ℕ). x ++ event_text names line.event) is ∙ simp append_assoc refl)

-- the front at which a line starts is one
pub front_of : (f : Bool) (names : Names) (last : ℕ) (text : List ℕ) (start : Start) → IsStart f names last text start → IsFront names text
front_of f names last text start is = record { time = start.time - base_of f last; actor = start.actor; in_time = omega (arith, is.in_time); is = is.front }

-- what holds of what a move writes
pub at_write : (P : Event → Change → Then → Type 0) (m : Move) (e : Event) (c : Change) (next : Then) → m ≡ Write e c next → IsWrite m P → P e c next
at_write P m e c next is holds = subst (λ (x : Move). IsWrite x P) is holds
