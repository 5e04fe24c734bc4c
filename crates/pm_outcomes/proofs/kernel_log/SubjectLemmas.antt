-- What is left to be told of, caller by caller.
use Rattle.std.proofs.Common.{ℕ, zero, suc, ◌≡◌, ◌+◌, List, [], ◌∷◌, ◌++◌, Option, Some, None, drop, length, refl, arith, ap, ◌∙◌, sym}
use Rattle.std.specs.Prelude.{slice_get}
use Rattle.pm_model.specs.declared.rows.CallerRow.{CallerRow}
use Rattle.pm_outcomes.specs.kernel_log.Placing.{calls_from, calls_of}

pub drop_at : {A : Type 0} (n : ℕ) (xs : List A) (x : A) → slice_get xs n ≡ Some x → drop n xs ≡ x ∷ drop (n + 1) xs
drop_at n [] x is = grind (arith)
drop_at zero (y ∷ xs) x is = grind (arith)
drop_at (suc n) (y ∷ xs) x is = let next : suc n + 1 ≡ suc (n + 1) = omega arith in rw next (drop_at n xs x is)

pub calls_left : (c n : ℕ) (rows : List CallerRow) (row : CallerRow) → slice_get rows n ≡ Some row
    → calls_from c (drop n rows) ≡ calls_of c (length row.script) ++ calls_from (c + 1) (drop (n + 1) rows)
calls_left c n rows row is = ap (calls_from c) (drop_at n rows row is)
