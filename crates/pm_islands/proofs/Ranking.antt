-- Numbers among labels have rising ranks, and each rank below that of a number is the rank of one below it.
use Rattle.std.proofs.Common.{ℕ, zero, suc, ◌≡◌, ◌+◌, ◌<◌, ◌≤◌, Bool, true, false, List, [], ◌∷◌, length, nat_eq, slice_index_or, if◌then◌else◌, refl, sym, ap, subst, arith, inl, inr, ◌∙◌, ◌⊎◌}
use Rattle.std.proofs.lemmas.Bool.{cases_lt, cases_order, eq-eqb, eqb-true, false≢true, or_cases, or_left, or_right}
use Rattle.pm_islands.specs.Ranks.{is_among, rank}

-- what is among labels stands at a place
pub record Stands (labels : List ℕ) (n : ℕ) : Type 0 where
  pub place : ℕ
  pub below : place < length labels
  pub is : slice_index_or labels place 0 ≡ n

pub stands : (labels : List ℕ) (n : ℕ) → is_among labels n ≡ true → Stands labels n
stands [] n among = absurd (false≢true among)
stands (x ∷ labels) n among =
    elim (or_cases (nat_eq x n) (is_among labels n) among) [
      | inl here ↦ record { place = 0; below = omega arith; is = eqb-true x n here }
      | inr later ↦ let it = stands labels n later in record { place = suc it.place; below = omega (arith, it.below); is = it.is }
    ]

pub each_among : (labels : List ℕ) (k : ℕ) → k < length labels → is_among labels (slice_index_or labels k 0) ≡ true
each_among [] k below = absurd (omega arith)
each_among (x ∷ labels) zero below = or_left (nat_eq x x) (is_among labels x) (eq-eqb x x refl)
each_among (x ∷ labels) (suc k) below = or_right _ _ (each_among labels k (omega (arith, below)))

step : (labels : List ℕ) (n : ℕ) → ((is_among labels n ≡ true) × (rank labels (suc n) ≡ suc (rank labels n))) ⊎ ((is_among labels n ≡ false) × (rank labels (suc n) ≡ rank labels n))
step labels n = go (is_among labels n) refl
  where
    go : (b : Bool) → is_among labels n ≡ b
        → ((is_among labels n ≡ true) × ((if b then suc (rank labels n) else rank labels n) ≡ suc (rank labels n)))
        ⊎ ((is_among labels n ≡ false) × ((if b then suc (rank labels n) else rank labels n) ≡ rank labels n))
    go true is = inl (is, refl)
    go false is = inr (is, refl)

step_rises : (labels : List ℕ) (n : ℕ) → rank labels n ≤ rank labels (suc n)
step_rises labels n = elim (step labels n) [ inl s ↦ omega (arith, s.1) | inr s ↦ omega (arith, s.1) ]

pub ranks_rise : (labels : List ℕ) (m n : ℕ) → m ≤ n → rank labels m ≤ rank labels n
ranks_rise labels zero zero within = omega arith
ranks_rise labels (suc m) zero within = absurd (omega arith)
ranks_rise labels m (suc n) within =
    elim (cases_order m (suc n)) [
      | inl same ↦ subst (λ k. rank labels m ≤ rank labels k) same (omega arith)
      | inr (inl less) ↦ let earlier : rank labels m ≤ rank labels n = ranks_rise labels m n (omega (arith, less)) in omega (arith, earlier, step_rises labels n)
      | inr (inr more) ↦ absurd (omega (arith, within, more))
    ]

pub ranks_less : (labels : List ℕ) (m n : ℕ) → is_among labels m ≡ true → m < n → rank labels m < rank labels n
ranks_less labels m n among less =
    let later : rank labels (suc m) ≤ rank labels n = ranks_rise labels (suc m) n (omega arith) in
    elim (step labels m) [ inl s ↦ omega (arith, s.1, later) | inr s ↦ absurd (false≢true (sym s.0 ∙ among)) ]

pub one_rank : (labels : List ℕ) (m n : ℕ) → is_among labels m ≡ true → is_among labels n ≡ true → rank labels m ≡ rank labels n → m ≡ n
one_rank labels m n m_among n_among same =
    elim (cases_order m n) [
      | inl is ↦ is
      | inr (inl less) ↦ absurd (omega (arith, ranks_less labels m n m_among less, same))
      | inr (inr more) ↦ absurd (omega (arith, ranks_less labels n m n_among more, same))
    ]

-- the number of a rank
pub record HasRank (labels : List ℕ) (n k : ℕ) : Type 0 where
  pub number : ℕ
  pub below : number < n
  pub among : is_among labels number ≡ true
  pub is : rank labels number ≡ k

pub has_rank : (labels : List ℕ) (n k : ℕ) → k < rank labels n → HasRank labels n k
has_rank labels zero k below = absurd (omega arith)
has_rank labels (suc n) k below =
    elim (step labels n) [
      | inl s ↦
          elim (cases_lt k (rank labels n)) [
            | inl less ↦ let it = has_rank labels n k less in record { number = it.number; below = omega (arith, it.below); among = it.among; is = it.is }
            | inr within ↦ record { number = n; below = omega arith; among = s.0; is = omega (arith, s.1, below, within) }
          ]
      | inr s ↦
          let it = has_rank labels n k (omega (arith, s.1, below)) in
          record { number = it.number; below = omega (arith, it.below); among = it.among; is = it.is }
    ]

pub rank_within : (labels : List ℕ) (n : ℕ) → rank labels n ≤ n
rank_within labels zero = omega arith
rank_within labels (suc n) =
    let earlier : rank labels n ≤ n = rank_within labels n in
    elim (step labels n) [ inl s ↦ omega (arith, s.1, earlier) | inr s ↦ omega (arith, s.1, earlier) ]

-- one number more
pub rank_more : (labels : List ℕ) (n : ℕ) → rank labels (n + 1) ≡ (if is_among labels n then rank labels n + 1 else rank labels n)
rank_more labels n = ap (rank labels) (plus_one n) ∙ ap (λ m. if is_among labels n then m else rank labels n) (sym (plus_one (rank labels n)))
  where
    plus_one : (m : ℕ) → m + 1 ≡ suc m
    plus_one m = omega arith
