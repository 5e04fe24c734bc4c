-- The step at which a caller stands.
use Rattle.std.proofs.Common.{◌≡◌, ℕ, ◌+◌, ◌<◌, ◌≤◌, List, ◌∷◌, drop, filter, get_or, length, map, refl, ap, subst, sym, ◌∙◌, add-one, arith}
use Rattle.std.proofs.Math.Seq.{drop-cons}
use Rattle.std.proofs.lemmas.List.Filters.{length-filter_both}
use Rattle.pm_driver_script.specs.Places.{is_end}
use Rattle.pm_driver_script.specs.Programs.{is_place}
use Rattle.pm_driver_script.specs.declared.places.Standing.{Standing}
use Rattle.std.proofs.lemmas.List.Elements.{All-drop}
use Rattle.pm_driver_script.specs.Fits.{HasFewExits}
use Rattle.pm_driver_text.specs.declared.steps.ScriptStep.{ScriptStep}

first_few : (step : ScriptStep) (behind : List ScriptStep) → HasFewExits (step ∷ behind) → length step.exits ≤ 8
first_few step behind few = few 0 step (omega arith)

pub few_at : (steps from behind : List ScriptStep) (n : ℕ) (step : ScriptStep) → HasFewExits steps → from ≡ drop n steps → from ≡ step ∷ behind → length step.exits ≤ 8
few_at steps from behind n step few cut is = first_few step behind (subst HasFewExits is (subst HasFewExits (sym cut) (All-drop (λ s. length s.exits ≤ 8) n steps few)))

-- the first of what is left, mapped
pub map_more : {A B : Type 0} (f : A → B) (xs : List A) (i : ℕ) (d : A) → i < length xs → map f (drop i xs) ≡ f (get_or xs i d) ∷ map f (drop (i + 1) xs)
map_more f xs i d below = ap (map f) (drop-cons xs i d below) ∙ rw add-one refl

-- places and ends are no more than all
pub few_split : (found places ends : List Standing) → length found ≤ 1000 → places ≡ filter is_place found → ends ≡ filter (λ s. is_end s.goal) found → (length places ≤ 1000) × (length ends ≤ 1000)
few_split found places ends few p e =
    let both = length-filter_both (λ s. is_end s.goal) is_place (λ s. refl) found in
    (rw p (omega (arith, both, few)), rw e (omega (arith, both, few)))
