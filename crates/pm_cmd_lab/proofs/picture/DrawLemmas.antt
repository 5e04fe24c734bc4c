-- What is written of the bytes of a trace.
use Rattle.std.proofs.Common.{ℕ, ◌≡◌, ◌∙◌, Bool, true, false, List, Result, Ok, Err, IfOk, Vec, Global, ap, reverse, subst, sym}
use Rattle.std.proofs.lemmas.List.{reverse-reverse}
use Rattle.pm_picture.specs.events.Events.{IsTimeline}
use Rattle.pm_model.specs.FirstBad.{StandsFor}
use Rattle.pm_model.specs.History.{History}
use Rattle.pm_model.specs.Lawful.{IsLawful}
use Rattle.pm_model.specs.NoWhy.{NoWhy}
use Rattle.pm_model.specs.Verdict.{IsVerdict, No}
use Rattle.pm_model.specs.declared.event.Line.{Line}
use Rattle.pm_model.specs.declared.plan.Plan.{Plan}
use Rattle.pm_picture.specs.Calls.{IsPictureOf}
use Rattle.pm_sheet.specs.svg.Shapes.{IsPicture}
use Rattle.pm_cmd_lab.specs.picture.Drawing.{IsDrawnOf, IsOfRun, IsShown, IsUnlawful, bad, stands}
use Rattle.pm_cmd_lab.specs.declared.picture.telling.Drawn.{Drawn}

-- they stand for a lawful list
pub drawn_lawful : {E : Type 0} (r : Result Drawn E) (plan : Plan) (h : History) (file bytes : List ℕ) (json : Bool) → IsLawful plan h → StandsFor plan bytes h
    → IfOk r (IsOfRun json h) → IfOk r (λ drawn. IsDrawnOf plan file bytes json drawn)
drawn_lawful (Ok drawn) plan h file bytes json lawful stands_for is = stands h lawful stands_for is
drawn_lawful (Err e) plan h file bytes json lawful stands_for is = tt

-- or they have a first bad line
pub drawn_bad : {E : Type 0} (r : Result Drawn E) (plan : Plan) (file bytes : List ℕ) (json : Bool) (n : ℕ) (why : NoWhy) → IsVerdict plan bytes (No n why)
    → IfOk r (λ drawn. IsUnlawful file n why drawn) → IfOk r (λ drawn. IsDrawnOf plan file bytes json drawn)
drawn_bad (Ok drawn) plan file bytes json n why verdict is = bad n why verdict is
drawn_bad (Err e) plan file bytes json n why verdict is = tt

-- a timeline where it is asked for, and else a picture
pub shown_timeline : {E : Type 0} (r : Result (Vec ℕ Global) E) (json : Bool) (h : History) → json ≡ true → IfOk r (λ text. IsTimeline text.items) → IfOk r (λ text. IsShown json h text.items)
shown_timeline r json h is all = subst (λ (b : Bool). IfOk r (λ text. IsShown b h text.items)) (sym is) all

pub shown_picture : {E : Type 0} (r : Result (Vec ℕ Global) E) (json : Bool) (h : History) (lines : List Line) → json ≡ false → reverse lines ≡ h
    → IfOk r (λ text. IsPicture text.items) → IfOk r (λ text. IsPictureOf lines text.items) → IfOk r (λ text. IsShown json h text.items)
shown_picture (Ok text) json h lines is same picture calls =
    let here = subst (λ (l : List Line). IsPictureOf l text.items) (sym (reverse-reverse lines) ∙ ap (λ (l : List Line). reverse l) same) calls in
    subst (λ (b : Bool). IsShown b h text.items) (sym is) (picture, here)
shown_picture (Err e) json h lines is same picture calls = tt
