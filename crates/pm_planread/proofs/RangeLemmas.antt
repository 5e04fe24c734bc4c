-- Numbers and codes that are in their ranges by the way they are made.
use Rattle.std.proofs.Common.{◌≡◌, ℕ, suc, ◌≤◌, Bool, true, false, List, [], ◌∷◌, ℤ, pos, negsuc, length, filter, nat_lt, nat_le, le-leb, refl, arith}
use Rattle.std.proofs.lemmas.Bool.{and_from}
use Rattle.std.proofs.lemmas.Bool.Decides.{nat_tests}
use Rattle.std.specs.List.{list_all}
use Rattle.pm_base.specs.declared.limits.TheConstants.{MAX_CODES}
use Rattle.pm_model.specs.IsPlan.{are_codes, is_code}
use Rattle.pm_planread.specs.rows.Rows.{codes_of, natural_within}
use Rattle.pm_planread.specs.rows.TooMany.{are_many_codes}

pub at_most : (low high : ℕ) (n : ℤ) → low ≤ high → nat_le (natural_within low high n) high ≡ true
at_most low high (pos n) ordered = grind (arith, nat_tests)
at_most low high (negsuc n) ordered = grind (arith, nat_tests)

pub at_least : (low high : ℕ) (n : ℤ) → nat_le low (natural_within low high n) ≡ true
at_least low high (pos n) = grind (arith, nat_tests)
at_least low high (negsuc n) = grind (arith, nat_tests)

kept_cons : {A : Type 0} (p : A → Bool) (x : A) (xs : List A) (b : Bool) → p x ≡ b → list_all p (filter p xs) ≡ true → list_all p (filter p (x ∷ xs)) ≡ true
kept_cons p x xs true is rest = rw is (and_from (p x) (list_all p (filter p xs)) is rest)
kept_cons p x xs false is rest = rw is rest

-- what is kept passes
pub kept : {A : Type 0} (p : A → Bool) (xs : List A) → list_all p (filter p xs) ≡ true
kept p [] = refl
kept p (x ∷ xs) = kept_cons p x xs (p x) refl (kept p xs)

fewer_cons : {A : Type 0} (p : A → Bool) (x : A) (xs : List A) (b : Bool) → p x ≡ b → length (filter p xs) ≤ length xs → length (filter p (x ∷ xs)) ≤ suc (length xs)
fewer_cons p x xs true is rest = rw is (omega arith)
fewer_cons p x xs false is rest = rw is (omega arith)

pub fewer : {A : Type 0} (p : A → Bool) (xs : List A) → length (filter p xs) ≤ length xs
fewer p [] = omega arith
fewer p (x ∷ xs) = fewer_cons p x xs (p x) refl (fewer p xs)

short : (n : ℕ) → nat_lt MAX_CODES n ≡ false → n ≤ MAX_CODES
short n few = grind (arith, nat_tests)

pub codes_are : (numbers : List ℤ) → are_many_codes numbers ≡ false → are_codes (codes_of numbers) ≡ true
codes_are numbers few =
    let kept_few : length (codes_of numbers) ≤ length numbers = fewer is_code numbers in
    let all_few : length numbers ≤ MAX_CODES = short (length numbers) few in
    and_from (nat_le (length (codes_of numbers)) MAX_CODES) (list_all is_code (codes_of numbers)) (le-leb (length (codes_of numbers)) MAX_CODES (omega arith)) (kept is_code numbers)
