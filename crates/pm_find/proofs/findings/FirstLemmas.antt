-- The first place that passes a test.
use Rattle.std.proofs.Common.{ℕ, suc, ◌≡◌, ◌+◌, ◌-◌, ◌<◌, ◌≤◌, Bool, true, false, List, [], ◌∷◌, Option, Some, None, if◌then◌else◌, ap, sym, ◌∙◌, arith}
use Rattle.std.specs.List.{find, range_with_len}

range_here : (i n : ℕ) → i < n → range_with_len i (n - i) ≡ i ∷ range_with_len (i + 1) (n - (i + 1))
range_here i n within =
    let one : n - i ≡ suc (n - (i + 1)) = omega (arith, within) in ap (λ m. range_with_len i m) one

range_none : (i n : ℕ) → n ≤ i → range_with_len i (n - i) ≡ []
range_none i n past =
    let none : n - i ≡ 0 = omega (arith, past) in ap (λ m. range_with_len i m) none

-- the first that does
find_by : (p : ℕ → Bool) (x : ℕ) (xs : List ℕ) (b : Bool) → p x ≡ b → find p (x ∷ xs) ≡ (if b then Some x else find p xs)
find_by p x xs b is = ap (λ c. if c then Some x else find p xs) is

pub find_found : (p : ℕ → Bool) (i n : ℕ) (all : Option ℕ) → i < n → p i ≡ true → find p (range_with_len i (n - i)) ≡ all → Some i ≡ all
find_found p i n all within passes is =
    sym (find_by p i (range_with_len (i + 1) (n - (i + 1))) true passes) ∙ sym (ap (find p) (range_here i n within)) ∙ is

pub find_more : (p : ℕ → Bool) (i n : ℕ) (all : Option ℕ) → i < n → p i ≡ false → find p (range_with_len i (n - i)) ≡ all
    → find p (range_with_len (i + 1) (n - (i + 1))) ≡ all
find_more p i n all within fails is =
    sym (find_by p i (range_with_len (i + 1) (n - (i + 1))) false fails) ∙ sym (ap (find p) (range_here i n within)) ∙ is

pub find_ended : (p : ℕ → Bool) (i n : ℕ) (all : Option ℕ) → n ≤ i → find p (range_with_len i (n - i)) ≡ all → None ≡ all
find_ended p i n all past is = sym (ap (find p) (range_none i n past)) ∙ is
