-- The first command of several scripts that is none.
use Rattle.std.proofs.Common.{◌≡◌, ℕ, suc, ◌+◌, ◌<◌, List, ◌∷◌, drop, get_or, length, Option, Some, None, subst, sym, ◌∙◌, ap}
use Rattle.std.proofs.Math.Seq.{drop-cons}
use Rattle.std.specs.Option.{option_or}
use Rattle.pm_planread.specs.tree.Places.{first_fault}
use Rattle.pm_planread.specs.declared.tree.place.Place.{Place}
use Rattle.pm_planread.specs.declared.tree.raw.RawCaller.{RawCaller}
use Rattle.pm_planread.specs.Faults.{IsScriptFault}
use Rattle.pm_planread.specs.Scripts.{bad_command, script_fault}
use Rattle.pm_planread.specs.declared.refusal.PlanFault.{PlanFault}
use Rattle.pm_planread.specs.declared.refusal.PlanFault.TheVariants.{NoMemory, Refused}

-- a fault of the first of two is one of both
comes_first : (one other : Option Place) (f : PlanFault) → IsScriptFault one f → IsScriptFault (option_or one other) f
comes_first (Some at) other NoMemory is = tt
comes_first (Some at) other (Refused why section item part) is = is
comes_first None other NoMemory is = tt
comes_first None other (Refused why section item part) is = absurd is

-- a fault of a caller's script is that of all where none before it has one
pub script_is_bad : (names : List (List ℕ)) (rows : List RawCaller) (i : ℕ) (row : RawCaller) (f : PlanFault)
    → i < length rows → row ≡ get_or rows i row
    → first_fault (bad_command names) i (drop i rows) ≡ first_fault (bad_command names) 0 rows
    → IsScriptFault (bad_command names i row) f
    → IsScriptFault (script_fault names rows) f
unfolding script_fault
script_is_bad names rows i row f within at before is =
    let rest = drop (suc i) rows in
    let cut : drop i rows ≡ row ∷ rest = drop-cons rows i row within ∙ ap (λ r. r ∷ rest) (sym at) in
    subst (λ place. IsScriptFault place f) (sym (ap (first_fault (bad_command names) i) cut) ∙ before)
    (comes_first (bad_command names i row) (first_fault (bad_command names) (i + 1) rest) f is)
