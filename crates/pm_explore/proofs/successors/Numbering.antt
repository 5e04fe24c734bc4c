-- Rows by their numbers.
use Rattle.std.proofs.Common.{ℕ, zero, suc, ◌≡◌, ◌+◌, ◌<◌, ◌≤◌, List, [], ◌∷◌, ◌++◌, ◌∙◌, length, map, take, refl, sym, ap, subst, append_assoc, arith}
use Rattle.std.specs.List.{enumerate_from}

-- what a rule makes of the numbers of the rows, from one on
abbrev pub numbered : {A B : Type 0} → (ℕ → B) → ℕ → List A → List B
numbered f n xs = map (λ p. f p.0) (enumerate_from n xs)

from : {A B : Type 0} (f : ℕ → B) (n : ℕ) (xs : List A) (i : ℕ) → i < length xs → take (suc i) (numbered f n xs) ≡ take i (numbered f n xs) ++ f (n + i) ∷ []
from f n [] i lt = absurd (omega (arith, lt))
from f n (x ∷ xs) zero lt = let e : n ≡ n + 0 = omega arith in ap (λ k. f k ∷ []) e
from f n (x ∷ xs) (suc i) lt =
    let e : n + 1 + i ≡ n + suc i = omega arith in
    ap (λ rest. f n ∷ rest) (from f (n + 1) xs i (omega (arith, lt)) ∙ ap (λ k. take i (numbered f (n + 1) xs) ++ f k ∷ []) e)

-- the first so many, and the next
numbered_more : {A B : Type 0} (f : ℕ → B) (xs : List A) (i : ℕ) → i < length xs → take (i + 1) (numbered f 0 xs) ≡ take i (numbered f 0 xs) ++ f i ∷ []
numbered_more f xs i lt =
    let up : suc i ≡ i + 1 = omega arith in
    let none : 0 + i ≡ i = omega arith in
    subst (λ n. take n (numbered f 0 xs) ≡ take i (numbered f 0 xs) ++ f i ∷ []) up (from f 0 xs i lt ∙ ap (λ k. take i (numbered f 0 xs) ++ f k ∷ []) none)

all_from : {A B : Type 0} (f : ℕ → B) (n : ℕ) (xs : List A) → take (length xs) (numbered f n xs) ≡ numbered f n xs
all_from f n [] = refl
all_from f n (x ∷ xs) = ap (λ rest. f n ∷ rest) (all_from f (n + 1) xs)

-- all of them
numbered_all : {A B : Type 0} (f : ℕ → B) (xs : List A) → take (length xs) (numbered f 0 xs) ≡ numbered f 0 xs
numbered_all f xs = all_from f 0 xs

-- a list goes on by one
pub goes_on : {A B : Type 0} (f : ℕ → B) (xs : List A) (i n : ℕ) (start out pushed : List B) → n ≡ length xs → i < n → out ≡ start ++ take i (numbered f 0 xs) → pushed ≡ out ++ f i ∷ []
    → pushed ≡ start ++ take (i + 1) (numbered f 0 xs)
goes_on f xs i n start out pushed all lt is more =
    more ∙ ap (λ l. l ++ f i ∷ []) is ∙ append_assoc start (take i (numbered f 0 xs)) (f i ∷ []) ∙ ap (λ l. start ++ l) (sym (numbered_more f xs i (omega (arith, all, lt))))

-- and ends
pub ends : {A B : Type 0} (f : ℕ → B) (xs : List A) (i n : ℕ) (start out : List B) → n ≡ length xs → n ≤ i → i ≤ n → out ≡ start ++ take i (numbered f 0 xs) → out ≡ start ++ numbered f 0 xs
ends f xs i n start out all past within is =
    let e : i ≡ length xs = omega (arith, all, past, within) in
    is ∙ ap (λ k. start ++ take k (numbered f 0 xs)) e ∙ ap (λ l. start ++ l) (numbered_all f xs)
