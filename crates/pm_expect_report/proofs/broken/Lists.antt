-- Options, and the rounds of places.
use Rattle.std.proofs.Common.{◌≡◌, ◌<◌, ◌≤◌, ℕ, true, false, not, List, Option, Some, None, length, slice_get, nat_lt, get_or, sym, ap, ◌∙◌, inl, inr, arith}
use Rattle.std.proofs.lemmas.Bool.{cases_lt}
use Rattle.std.proofs.lemmas.Bool.Decides.{nat_tests}
use Rattle.std.proofs.lemmas.List.Sums.{prefix_len_passes, prefix_len_stops}
use Rattle.std.proofs.lemmas.Option.{get_or_from_slice_get, slice_get_within}
use Rattle.pm_outcomes.specs.list.Listing.{round_of}

pub some_is : {A : Type 0} (x y : A) → Some x ≡ Some y → x ≡ y
some_is x y is = cc is

-- what is none isn't some
pub clash : {A : Type 0} (o : Option A) (x : A) → o ≡ None → o ≡ Some x → ⊥
clash o x none some = cc (none, some)

-- a place is within its round
pub in_its_round : (rounds : List ℕ) (place bound : ℕ) → slice_get rounds (round_of rounds place) ≡ Some bound → place < bound
in_its_round rounds place bound there =
    let stops = prefix_len_stops (λ x. not (nat_lt place x)) rounds 0 (slice_get_within rounds (round_of rounds place) bound there) in
    let is : get_or rounds (round_of rounds place) 0 ≡ bound = get_or_from_slice_get rounds (round_of rounds place) bound 0 there in
    let reads : not (nat_lt place bound) ≡ false = ap (λ x. not (nat_lt place x)) (sym is) ∙ stops in
    grind (arith, nat_tests)

-- and no later round is its own
pub no_later : (rounds : List ℕ) (place k bound : ℕ) → slice_get rounds k ≡ Some bound → place < bound → round_of rounds place ≤ k
no_later rounds place k bound there lt = elim (cases_lt k (round_of rounds place)) [
  | inl before ↦
      let passes = prefix_len_passes (λ x. not (nat_lt place x)) rounds k 0 before in
      let is : get_or rounds k 0 ≡ bound = get_or_from_slice_get rounds k bound 0 there in
      let reads : not (nat_lt place bound) ≡ true = ap (λ x. not (nat_lt place x)) (sym is) ∙ passes in
      absurd (grind (arith, nat_tests))
  | inr behind ↦ behind
]
