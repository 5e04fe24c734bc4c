-- Lines, one after the other.
use Rattle.std.proofs.Common.{◌≡◌, ℕ, ◌+◌, List, [], ◌∷◌, ◌++◌, Option, Some, drop, length, map, refl, ap, sym, ◌∙◌, append_assoc, arith}
use Rattle.std.specs.List.{range_with_len}
use Rattle.std.proofs.lemmas.List.FromFn.{map-range_with_len_more}
use Rattle.pm_driver_read.specs.Managed.{flag_name, flag_names, force_name, force_names}
use Rattle.pm_driver_text.specs.declared.steps.ScriptStep.{ScriptStep}

pub own_more : (n : ℕ) → map Some (range_with_len 0 (n + 1)) ≡ map Some (range_with_len 0 n) ++ Some n ∷ []
own_more n = map-range_with_len_more Some 0 n n (omega arith)

pub flags_more : (names : List (List ℕ)) (n : ℕ) → names ++ flag_names (n + 1) ≡ (names ++ flag_names n) ++ flag_name n ∷ []
flags_more names n = ap (λ l. names ++ l) (map-range_with_len_more flag_name 0 n n (omega arith)) ∙ sym (append_assoc names (flag_names n) (flag_name n ∷ []))

pub forces_more : (names : List (List ℕ)) (n : ℕ) → names ++ force_names (n + 1) ≡ (names ++ force_names n) ++ force_name n ∷ []
forces_more names n = ap (λ l. names ++ l) (map-range_with_len_more force_name 0 n n (omega arith)) ∙ sym (append_assoc names (force_names n) (force_name n ∷ []))

drop_front : (xs ys : List ScriptStep) → drop (length xs) (xs ++ ys) ≡ ys
drop_front [] ys = refl
drop_front (x ∷ xs) ys = drop_front xs ys

-- the lines of the steps behind those that have one
pub fresh_lines : (lines new : List (Option ℕ)) (old out steps : List ScriptStep) (line : Option ℕ) → length lines ≡ length old → out ≡ old ++ steps
    → new ≡ lines ++ map (λ s. line) (drop (length lines) out) → new ≡ lines ++ map (λ s. line) steps
fresh_lines lines new old out steps line even grown is =
    is ∙ ap (λ l. lines ++ map (λ s. line) l) (ap (λ n. drop n out) even ∙ ap (λ l. drop (length old) l) grown ∙ drop_front old steps)
