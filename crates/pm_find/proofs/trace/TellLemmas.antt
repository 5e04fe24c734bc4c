-- What is told of the bytes of a trace.
use Rattle.std.proofs.Common.{◌≡◌, ◌+◌, ◌<◌, ◌++◌, ℕ, Bool, List, [], ◌∷◌, Result, Ok, Err, IfOk, get_or, length, subst, sym, take, ap, ◌∙◌}
use Rattle.std.proofs.lemmas.List.{take_more}
use Rattle.pm_model.specs.FirstBad.{StandsFor}
use Rattle.pm_model.specs.History.{History}
use Rattle.pm_model.specs.Lawful.{IsLawful}
use Rattle.pm_model.specs.NoWhy.{NoWhy}
use Rattle.pm_model.specs.Verdict.{IsVerdict, No}
use Rattle.pm_model.specs.declared.plan.Plan.{Plan}
use Rattle.pm_model.specs.declared.event.Line.{Line}
use Rattle.pm_find.specs.declared.findings.Finding.{Finding}
use Rattle.pm_find.specs.text.Texts.{finding_text}
use Rattle.pm_find.specs.trace.PlanPlaces.{IsPlaceOf}
use Rattle.pm_find.specs.trace.Telling.{IsFound, IsToldOf, IsUnlawful, bad, stands}
use Rattle.pm_find.specs.trace.Texts.{Files, TellsEach, more}
use Rattle.pm_find.specs.declared.trace.telling.Found.{Found}

-- they stand for a lawful list
pub told_lawful : {E : Type 0} (r : Result Found E) (plan of : Plan) (h : History) (files : Files) (bytes : List ℕ) (notes : Bool) → of ≡ plan → IsLawful plan h → StandsFor plan bytes h
    → IfOk r (λ found. IsFound of h files notes found) → IfOk r (λ found. IsToldOf plan files bytes notes found)
told_lawful (Ok found) plan of h files bytes notes same lawful stands_for is = stands h lawful stands_for (subst (λ (p : Plan). IsFound p h files notes found) same is)
told_lawful (Err e) plan of h files bytes notes same lawful stands_for is = tt

-- or they have a first bad line
pub told_bad : {E : Type 0} (r : Result Found E) (plan : Plan) (files : Files) (bytes : List ℕ) (notes : Bool) (n : ℕ) (why : NoWhy) → IsVerdict plan bytes (No n why)
    → IfOk r (λ found. IsUnlawful files.trace n why found) → IfOk r (λ found. IsToldOf plan files bytes notes found)
told_bad (Ok found) plan files bytes notes n why verdict is = bad n why verdict is
told_bad (Err e) plan files bytes notes n why verdict is = tt

-- one line more is told
pub each_more : (plan : Plan) (lines : List Line) (files : Files) (all : List Finding) (i : ℕ) (e : Finding) (place given before after : List ℕ) → i < length all
    → TellsEach plan lines files (take i all) before → IsPlaceOf plan lines files.plan files.text (get_or all i e) place
    → given ≡ place → after ≡ before ++ finding_text plan files.trace (get_or all i e) given → TellsEach plan lines files (take (i + 1) all) after
each_more plan lines files all i e place given before after within was placed same is =
    subst (λ (l : List Finding). TellsEach plan lines files l after) (sym (take_more all i e within))
    (subst (λ (t : List ℕ). TellsEach plan lines files (take i all ++ get_or all i e ∷ []) t) (sym (is ∙ ap (λ (p : List ℕ). before ++ finding_text plan files.trace (get_or all i e) p) same)) (more (take i all) before was (get_or all i e) place placed))
