-- The first newline of bytes, and those before it.
use Rattle.std.proofs.Common.{ℕ, zero, suc, ◌≡◌, ◌<◌, Bool, true, false, not, ◌&&◌, List, [], ◌∷◌, ◌++◌, Some, None, length, take, drop, nat_eq, refl, ap, arith}
use Rattle.std.proofs.lemmas.Bool.{eqb-true}
use Rattle.memchr.specs.Find.{IsFirstByte, Passes, is_byte}
use Rattle.pm_model.specs.NoWhy.{is_within_line}

inside : (b rest : Bool) → (b ≡ true → ⊥) → rest ≡ true → not b && rest ≡ true
inside true rest none tail = absurd (none refl)
inside false rest none tail = tail

within_all : (xs : List ℕ) → ((j : ℕ) → j < length xs → Passes (is_byte 10) xs j → ⊥) → is_within_line xs ≡ true
within_all [] none = refl
within_all (x ∷ xs) none = inside (nat_eq x 10) (is_within_line xs) (λ is. none 0 (omega arith) is) (within_all xs (λ j less is. none (suc j) (omega (arith, less)) is))

within_before : (xs : List ℕ) (n : ℕ) → ((j : ℕ) → j < n → Passes (is_byte 10) xs j → ⊥) → is_within_line (take n xs) ≡ true
within_before xs zero none = refl
within_before [] (suc n) none = refl
within_before (x ∷ xs) (suc n) none = inside (nat_eq x 10) (is_within_line (take n xs)) (λ is. none 0 (omega arith) is) (within_before xs n (λ j less is. none (suc j) (omega (arith, less)) is))

split_there : (xs : List ℕ) (n : ℕ) → n < length xs → Passes (is_byte 10) xs n → xs ≡ take n xs ++ (10 ∷ drop 1 (drop n xs))
split_there [] n less is = absurd (omega (arith, less))
split_there (x ∷ xs) zero less is = let same : x ≡ 10 = eqb-true x 10 is in ap (λ y. y ∷ xs) same
split_there (x ∷ xs) (suc n) less is = ap (λ ys. x ∷ ys) (split_there xs n (omega (arith, less)) is)

-- the bytes before the first newline are within a line, and behind it follow the others
pub record IsSplit (xs : List ℕ) (n : ℕ) : Type 0 where
  pub low : n < length xs
  pub within : is_within_line (take n xs) ≡ true
  pub all : xs ≡ take n xs ++ (10 ∷ drop 1 (drop n xs))

pub splits : (xs : List ℕ) (n : ℕ) → IsFirstByte (is_byte 10) xs (Some n) → IsSplit xs n
splits xs n is = record {
  low = is.0.high;
  within = within_before xs n (λ j less. is.0.before j (omega arith) less);
  all = split_there xs n is.0.high is.1;
}

pub no_newline : (xs : List ℕ) → IsFirstByte (is_byte 10) xs None → is_within_line xs ≡ true
no_newline xs is = within_all xs (λ j less. is j (omega arith) less)
