-- A small graph: from a number to the next freely, and to its double by a step that spends.
use Rattle.std.proofs.lemmas.Bool.{eqb-true}
use Rattle.std.proofs.lemmas.Bool.Decides.{Decides-eqb}
use Rattle.std.specs.Prelude.{nat_eq, ℕ, ◌≡◌, ◌+◌, ◌*◌, ◌%◌, ◌≤◌, Bool, true, false}

abbrev pub FollowsTo : ℕ → Bool → ℕ → ℕ → Type 0
FollowsTo top false n m = (m ≡ n + 1) × (m ≤ top) × (¬ (n % 10 ≡ 9))
FollowsTo top true n m = (m ≡ 2 * n) × (m ≤ top)

pub same_number : (n m : ℕ) → nat_eq n m ≡ true → n ≡ m
same_number n m is = eqb-true n m is

pub number_same : (n m : ℕ) → n ≡ m → nat_eq n m ≡ true
number_same n m is = (Decides-eqb n m).1 is
