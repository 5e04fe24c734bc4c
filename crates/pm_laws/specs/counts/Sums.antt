-- Sums over the stages of many stacks; the stages are of any type. A stack's top stands first.
use Rattle.std.specs.Prelude.{ℕ, zero, suc, ◌+◌, Bool, List, [], ◌∷◌, if◌then◌else◌}
use Rattle.std.specs.List.{sum_by}

-- 1 where the test holds, else 0
abbrev pub one : Bool → ℕ
one b = if b then 1 else 0

-- what all stages of all stacks weigh
abbrev pub tally : {A : Type 0} → (A → ℕ) → List (List A) → ℕ
tally f stacks = sum_by (sum_by f) stacks

-- a sum that computes where its first number is 0
abbrev pub plus : ℕ → ℕ → ℕ
plus zero n = n
plus (suc m) n = suc m + n

-- what a few stages weigh: the sum, so that it computes where all but the last weigh nothing
abbrev pub weigh : {A : Type 0} → (A → ℕ) → List A → ℕ
weigh f [] = 0
weigh f (x ∷ []) = f x
weigh f (x ∷ y ∷ rest) = plus (f x) (weigh f (y ∷ rest))
