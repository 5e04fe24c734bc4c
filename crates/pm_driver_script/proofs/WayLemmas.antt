-- The exits of a get, one after the other.
use Rattle.std.proofs.Common.{◌≡◌, ℕ, ◌+◌, true, false, List, [], ◌∷◌, ◌++◌, Some, ap, sym, ◌∙◌, append_assoc}
use Rattle.std.specs.Prelude.{if◌then◌else◌}
use Rattle.pm_driver_script.specs.Ways.{found_exit, get_exits, get_test, part_goal, takes_all}
use Rattle.pm_driver_script.specs.declared.ways.GoalExit.{GoalExit}
use Rattle.pm_driver_text.specs.declared.exits.StepExit.{StepExit}
use Rattle.pm_driver_text.specs.declared.verbs.CodeTest.TheVariants as test

pub one_more_exit : (number part : ℕ) (exit : StepExit) (exits : List StepExit) (made next all : List GoalExit)
    → next ≡ made ++ found_exit (get_test exit.test) (part_goal number part) → takes_all exit.test ≡ false
    → made ++ get_exits number part (exit ∷ exits) ≡ all → next ++ get_exits number (part + 1) exits ≡ all
one_more_exit number part exit exits made next all is open_is was =
    let found = found_exit (get_test exit.test) (part_goal number part) in
    let rest = get_exits number (part + 1) exits in
    let e : get_exits number part (exit ∷ exits) ≡ found ++ rest = ap (λ b. if b then found else (found ++ rest)) open_is in
    ap (λ n. n ++ rest) is ∙ append_assoc made found rest ∙ ap (λ r. made ++ r) (sym e) ∙ was

pub last_exit : (number part : ℕ) (exit : StepExit) (exits : List StepExit) (made next all : List GoalExit)
    → next ≡ made ++ found_exit (get_test exit.test) (part_goal number part) → takes_all exit.test ≡ true
    → made ++ get_exits number part (exit ∷ exits) ≡ all → next ≡ all
last_exit number part exit exits made next all is all_is was =
    let found = found_exit (get_test exit.test) (part_goal number part) in
    let rest = get_exits number (part + 1) exits in
    let e : get_exits number part (exit ∷ exits) ≡ found = ap (λ b. if b then found else (found ++ rest)) all_is in
    is ∙ ap (λ r. made ++ r) (sym e) ∙ was

pub no_exit : (number part : ℕ) (made next all : List GoalExit) → next ≡ made ++ found_exit (Some test.Negative) (part_goal number part)
    → made ++ get_exits number part [] ≡ all → next ≡ all
no_exit number part made next all is was = is ∙ was
