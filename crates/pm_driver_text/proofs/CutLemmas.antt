-- Cutting a list where it ends or before.
use Rattle.std.proofs.Common.{◌≡◌, ℕ, zero, suc, List, [], ◌∷◌, drop, length, min, take, ap, arith}

pub behind_least : {A : Type 0} (n : ℕ) (xs : List A) → drop (min n (length xs)) xs ≡ drop n xs
behind_least zero xs = grind arith
behind_least (suc n) [] = grind arith
behind_least (suc n) (x ∷ xs) = let e : min (suc n) (length (x ∷ xs)) ≡ suc (min n (length xs)) = omega arith in rw e (behind_least n xs)

pub first_least : {A : Type 0} (n : ℕ) (xs : List A) → take (min n (length xs)) xs ≡ take n xs
first_least zero xs = grind arith
first_least (suc n) [] = grind arith
first_least (suc n) (x ∷ xs) = let e : min (suc n) (length (x ∷ xs)) ≡ suc (min n (length xs)) = omega arith in rw e (ap (λ ys. x ∷ ys) (first_least n xs))
