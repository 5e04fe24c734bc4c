-- What holds of the first so many of a list, and of one more.
use Rattle.std.proofs.Common.{ℕ, zero, suc, ◌+◌, ◌<◌, ◌≤◌, List, [], ◌∷◌, length, take, get_or, sym, subst, arith}
use Rattle.std.proofs.lemmas.List.{take_all, take_more}
use Rattle.std.proofs.lemmas.List.Elements.{All-append}
use Rattle.std.specs.List.{All}

all_one : {A : Type 0} (P : A → Type 0) (x : A) → P x → All P (x ∷ [])
all_one P x p zero d lt = p
all_one P x p (suc i) d lt = absurd (omega (arith, lt))

pub all_more : {A : Type 0} (P : A → Type 0) (xs : List A) (i : ℕ) (d : A) → i < length xs → All P (take i xs) → P (get_or xs i d) → All P (take (i + 1) xs)
all_more {A = A} P xs i d lt all p = let Q : List A → Type 0 = All P in subst Q (sym (take_more xs i d lt)) (All-append P (take i xs) (get_or xs i d ∷ []) all (all_one P (get_or xs i d) p))

pub all_whole : {A : Type 0} (P : A → Type 0) (xs : List A) (i : ℕ) → length xs ≤ i → All P (take i xs) → All P xs
all_whole {A = A} P xs i le all = let Q : List A → Type 0 = All P in subst Q (take_all i xs le) all
