-- Names of a letter and a number.
use Rattle.std.proofs.Common.{◌≡◌, ℕ, zero, suc, ◌+◌, ◌%◌, ◌^◌, ◌<◌, ◌≤◌, true, false, [], ◌∷◌, decimal, drop, length, map, le-leb, refl, ap, ◌∙◌, arith, lit<}
use Rattle.std.specs.List.{list_all, list_any, range_with_len}
use Rattle.std.specs.Str.{bytes_eq}
use Rattle.std.proofs.lemmas.Bool.{and_from}
use Rattle.std.proofs.lemmas.Fmt.{decimal_by_steps, decimal_digit, decimal_injective, length-decimal-le}
use Rattle.std.proofs.lemmas.List.Folds.{list_all-append}
use Rattle.pm_base.specs.declared.limits.TheConstants.{MAX_NAME}
use Rattle.pm_model.proofs.PlaceNamed.{not_same}
use Rattle.pm_model.specs.IsPlan.{are_distinct, is_caller_name, is_name, is_name_byte}
use Rattle.pm_make.specs.Generator.{name}

name_digit : (n : ℕ) → n < 10 → is_name_byte (48 + n) ≡ true
name_digit zero below = refl
name_digit (suc zero) below = refl
name_digit (suc (suc zero)) below = refl
name_digit (suc (suc (suc zero))) below = refl
name_digit (suc (suc (suc (suc zero)))) below = refl
name_digit (suc (suc (suc (suc (suc zero))))) below = refl
name_digit (suc (suc (suc (suc (suc (suc zero)))))) below = refl
name_digit (suc (suc (suc (suc (suc (suc (suc zero))))))) below = refl
name_digit (suc (suc (suc (suc (suc (suc (suc (suc zero)))))))) below = refl
name_digit (suc (suc (suc (suc (suc (suc (suc (suc (suc zero))))))))) below = refl
name_digit (suc (suc (suc (suc (suc (suc (suc (suc (suc (suc n)))))))))) below = absurd (omega arith)

name_decimal : (n : ℕ) → n < 2 ^ 64 → list_all is_name_byte (decimal n) ≡ true
name_decimal n small =
    decimal_by_steps (λ k ds. list_all is_name_byte ds ≡ true)
    (λ k below. and_from _ _ (name_digit k below) refl)
    (λ k ds big all. list_all-append is_name_byte ds ((48 + k % 10) ∷ []) ∙ and_from _ _ all (and_from _ _ (name_digit (k % 10) (omega arith)) refl))
    n small

-- a letter and a small number are a name
pub is_named : (c n : ℕ) → is_name_byte c ≡ true → n ≤ 1024 → is_name (name (c ∷ []) n) ≡ true
is_named c n letter few =
    let short : length (decimal n) ≤ 10 = length-decimal-le 10 n (lit< tt) (omega arith) (omega arith) in
    and_from _ _ (and_from _ _ (le-leb 1 (length (c ∷ decimal n)) (omega arith)) (le-leb (length (c ∷ decimal n)) MAX_NAME (omega arith)))
    (and_from _ _ letter (name_decimal n (omega arith)))

caller_digit : (n : ℕ) → n < 4 → is_caller_name (99 ∷ (48 + n) ∷ []) ≡ true
caller_digit zero below = refl
caller_digit (suc zero) below = refl
caller_digit (suc (suc zero)) below = refl
caller_digit (suc (suc (suc zero))) below = refl
caller_digit (suc (suc (suc (suc n)))) below = absurd (omega arith)

pub is_caller_named : (n : ℕ) → n < 4 → is_caller_name (name (99 ∷ []) n) ≡ true
is_caller_named n below = ap (λ ds. is_caller_name (99 ∷ ds)) (decimal_digit n (omega arith)) ∙ caller_digit n below

differ : (c i j : ℕ) → i < j → j ≤ 2000 → bytes_eq (name (c ∷ []) i) (name (c ∷ []) j) ≡ false
differ c i j less few =
    not_same (name (c ∷ []) i) (name (c ∷ []) j) (λ same.
    let one : i ≡ j = decimal_injective i j (omega arith) (omega arith) (ap (drop 1) same) in
    omega arith)

none_named : (c i a n : ℕ) → i < a → a + n ≤ 2000 → list_any (bytes_eq (name (c ∷ []) i)) (map (name (c ∷ [])) (range_with_len a n)) ≡ false
none_named c i a zero less few = refl
none_named c i a (suc n) less few = rw (differ c i a less (omega arith), none_named c i (a + 1) n (omega arith) (omega arith)) refl

-- the names of different numbers are distinct
pub distinct_named : (c a n : ℕ) → a + n ≤ 2000 → are_distinct bytes_eq (map (name (c ∷ [])) (range_with_len a n)) ≡ true
distinct_named c a zero few = refl
distinct_named c a (suc n) few = rw (none_named c a (a + 1) n (omega arith) (omega arith), distinct_named c (a + 1) n (omega arith)) refl
