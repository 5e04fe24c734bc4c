-- How sums over stacks change.
use Rattle.std.proofs.Common.{ℕ, zero, suc, ◌≡◌, ◌+◌, ◌<◌, ◌≤◌, List, [], ◌∷◌, ◌++◌, length, slice_set, slice_index_or, arith, ap, refl}
use Rattle.std.specs.List.{sum_by}
use Rattle.std.proofs.lemmas.List.Sums.{sum_by-cons, sum_by-append, sum_by-set, get_or-le-sum_by}
use Rattle.pm_laws.specs.counts.Sums.{tally, weigh, plus}

plus_is : (m n : ℕ) → plus m n ≡ m + n
plus_is zero n = omega arith
plus_is (suc m) n = refl

-- a few stages weigh their sum
pub weigh_is : {A : Type 0} (f : A → ℕ) (stages : List A) → sum_by f stages ≡ weigh f stages
weigh_is f [] = refl
weigh_is f (x ∷ []) = omega (arith, sum_by-cons f x [])
weigh_is f (x ∷ y ∷ rest) = omega (arith, sum_by-cons f x (y ∷ rest), weigh_is f (y ∷ rest), plus_is (f x) (weigh f (y ∷ rest)))

pub tally-append : {A : Type 0} (f : A → ℕ) (xs ys : List (List A)) → tally f (xs ++ ys) ≡ tally f xs + tally f ys
tally-append f xs ys = sum_by-append (sum_by f) xs ys

-- where one stack is replaced
pub tally-set : {A : Type 0} (f : A → ℕ) (stacks : List (List A)) (i : ℕ) (stack : List A) → i < length stacks
    → tally f (slice_set stacks i stack) + sum_by f (slice_index_or stacks i []) ≡ tally f stacks + sum_by f stack
tally-set f stacks i stack within = sum_by-set (sum_by f) stacks i stack [] within

-- where the top of one stack gives way to a few stages
pub tally_replaced : {A : Type 0} (f : A → ℕ) (stacks : List (List A)) (i : ℕ) (s : A) (rest next : List A) → i < length stacks
    → slice_index_or stacks i [] ≡ s ∷ rest → tally f (slice_set stacks i (next ++ rest)) + f s ≡ tally f stacks + weigh f next
tally_replaced f stacks i s rest next within top =
    let whole = tally-set f stacks i (next ++ rest) within in
    let was : sum_by f (slice_index_or stacks i []) ≡ sum_by f (s ∷ rest) = ap (sum_by f) top in
    omega (arith, sum_by-cons f s rest, sum_by-append f next rest, weigh_is f next)

-- the top of a stack is within the sum
pub top_within : {A : Type 0} (f : A → ℕ) (stacks : List (List A)) (i : ℕ) (s : A) (rest : List A) → i < length stacks
    → slice_index_or stacks i [] ≡ s ∷ rest → f s ≤ tally f stacks
top_within f stacks i s rest within top =
    let whole = get_or-le-sum_by (sum_by f) stacks i [] within in
    let was : sum_by f (slice_index_or stacks i []) ≡ sum_by f (s ∷ rest) = ap (sum_by f) top in
    omega (arith, sum_by-cons f s rest)
