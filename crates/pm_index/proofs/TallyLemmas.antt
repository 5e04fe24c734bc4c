-- How many of an owner's places are marked, once one mark changes.
use Rattle.std.proofs.Common.{ℕ, zero, suc, ◌≡◌, ◌+◌, ◌-◌, ◌<◌, ◌^◌, ◌≤◌, Bool, true, false, ◌&&◌, List, [], ◌∷◌, Option, Some, None, length, replicate, slice_set, slice_index_or, IfSome, nat_eq, cond, refl, ap, sym, ◌∙◌, subst, inl, inr, arith}
use Rattle.std.specs.List.{zip}
use Rattle.std.proofs.lemmas.Bool.{cases_lt}
use Rattle.std.proofs.lemmas.Bool.Decides.{eqb_tells}
use Rattle.std.proofs.lemmas.Grind.{get_or-set_at}
use Rattle.std.proofs.lemmas.List.{length-replicate, length-set, get_or-replicate, get_or-set_other, get_or_default, same_lists, set_past}
use Rattle.std.proofs.lemmas.List.Sums.{count_by-le-length, sum_by-cons}
use Rattle.std.proofs.lemmas.Slice.Zip.{length-zip}
use Rattle.pm_index.specs.OwnMarks.{AreBelow, IsTallied, Marks, bit_at, is_of, marked_of, owner_at, unmarked}

abbrev bit : Bool → ℕ
bit b = cond b 1 0

marked-cons : (o : ℕ) (owner : Option ℕ) (b : Bool) (owners : List (Option ℕ)) (bits : List Bool) → marked_of (owner ∷ owners) (b ∷ bits) o ≡ bit (is_of o owner && b) + marked_of owners bits o
marked-cons o owner b owners bits = sum_by-cons (λ q. cond (is_of o q.0 && q.1) 1 0) (owner, b) (zip owners bits)

-- one mark changes
marked-set : (o : ℕ) (owners : List (Option ℕ)) (bits : List Bool) (i : ℕ) (b : Bool) → i < length bits → length bits ≡ length owners
    → marked_of owners (slice_set bits i b) o + bit (is_of o (owner_at owners i) && bit_at bits i) ≡ marked_of owners bits o + bit (is_of o (owner_at owners i) && b)
marked-set o owners [] i b within same = absurd (omega arith)
marked-set o [] (c ∷ bits) i b within same = absurd (omega arith)
marked-set o (p ∷ owners) (c ∷ bits) zero b within same = omega (arith, marked-cons o p b owners bits, marked-cons o p c owners bits)
marked-set o (p ∷ owners) (c ∷ bits) (suc i) b within same =
    omega (arith, marked-set o owners bits i b (omega arith) (omega arith), marked-cons o p c owners (slice_set bits i b), marked-cons o p c owners bits)

-- a place that isn't o's adds nothing to o's count, and one that is adds its mark
other_place : (o p : ℕ) (b : Bool) → nat_eq p o ≡ false → bit (is_of o (Some p) && b) ≡ 0
other_place o p b other = ap (λ c. bit (c && b)) other

own_place : (o p : ℕ) (b : Bool) → nat_eq p o ≡ true → bit (is_of o (Some p) && b) ≡ bit b
own_place o p b own = ap (λ c. bit (c && b)) own

eq_self : (n : ℕ) → nat_eq n n ≡ true
eq_self n = elim (eqb_tells n n) [ inl same ↦ same.0 | inr other ↦ absurd (other.1 refl) ]

no_mark : (c : Bool) → bit (c && false) ≡ 0
no_mark true = refl
no_mark false = refl

marked-none : (o : ℕ) (owners : List (Option ℕ)) → marked_of owners (replicate (length owners) false) o ≡ 0
marked-none o [] = refl
marked-none o (p ∷ owners) = marked-cons o p false owners (replicate (length owners) false) ∙ omega (arith, no_mark (is_of o p), marked-none o owners)

-- no owner past the bound has a place
far_off : (bound o : ℕ) (p : Option ℕ) (b : Bool) → IfSome p (λ x. x < bound) → bound ≤ o → bit (is_of o p && b) ≡ 0
far_off bound o None b below past = refl
far_off bound o (Some p) b below past = elim (eqb_tells p o) [ inl same ↦ let is = same.1 in absurd (omega arith) | inr other ↦ other_place o p b other.0 ]

marked-past : (bound o : ℕ) (owners : List (Option ℕ)) (bits : List Bool) → AreBelow bound owners → bound ≤ o → marked_of owners bits o ≡ 0
marked-past bound o [] bits below past = refl
marked-past bound o (p ∷ owners) [] below past = refl
marked-past bound o (p ∷ owners) (b ∷ bits) below past =
    marked-cons o p b owners bits ∙ omega (arith, far_off bound o p b (below 0) past, marked-past bound o owners bits (λ k. below (suc k)) past)

-- before any mark
pub none_tallied : (owners : List (Option ℕ)) (bound : ℕ) → length owners + 1 < 2 ^ 32 → AreBelow bound owners → IsTallied owners (replicate (length owners) false) (replicate bound 0)
none_tallied owners bound few below = record {
  few = few;
  bits_len = length-replicate (length owners) false;
  below = λ place. subst (λ n. IfSome (owner_at owners place) (λ o. o < n)) (sym (length-replicate bound 0)) (below place);
  counted = λ o less. get_or-replicate bound o 0 0 (subst (λ n. o < n) (length-replicate bound 0) less) ∙ sym (marked-none o owners);
}

-- the count of each owner, in the bound or past it
pub count_is : (owners : List (Option ℕ)) (bits : List Bool) (counts : List ℕ) → IsTallied owners bits counts → (o : ℕ) → slice_index_or counts o 0 ≡ marked_of owners bits o
count_is owners bits counts kept o = elim (cases_lt o (length counts)) [
  | inl less ↦ kept.counted o less
  | inr past ↦ past_end counts o past ∙ sym (marked-past (length counts) o owners bits kept.below past)
]
  where
    past_end : (counts : List ℕ) (o : ℕ) → length counts ≤ o → slice_index_or counts o 0 ≡ 0
    past_end [] o past = refl
    past_end (n ∷ counts) zero past = absurd (omega arith)
    past_end (n ∷ counts) (suc o) past = past_end counts o (omega arith)

-- an owner's count without one place
pub marked-unmarked : (owners : List (Option ℕ)) (bits : List Bool) (o i : ℕ) → length bits ≡ length owners
    → marked_of owners (unmarked (Some i) bits) o + bit (bit_at bits i && is_of o (owner_at owners i)) ≡ marked_of owners bits o
marked-unmarked owners bits o i same = elim (cases_lt i (length bits)) [
  | inl within ↦ omega (arith, marked-set o owners bits i false within same, no_mark (is_of o (owner_at owners i)), turned (bit_at bits i) (is_of o (owner_at owners i)))
  | inr past ↦ omega (arith, ap (λ bs. marked_of owners bs o) (set_past bits i false past), ap (λ b. bit (b && is_of o (owner_at owners i))) (unset bits i past))
]
  where
    turned : (a b : Bool) → bit (a && b) ≡ bit (b && a)
    turned true true = refl
    turned true false = refl
    turned false true = refl
    turned false false = refl

    unset : (bits : List Bool) (i : ℕ) → length bits ≤ i → bit_at bits i ≡ false
    unset [] i past = refl
    unset (b ∷ bits) zero past = absurd (omega arith)
    unset (b ∷ bits) (suc i) past = unset bits i (omega arith)

-- the owner of a place, if it has one, is counted anew
abbrev pub recounted : List ℕ → Option ℕ → Bool → Bool → List ℕ
recounted counts None was is = counts
recounted counts (Some p) was is = slice_set counts p (slice_index_or counts p 0 + bit is - bit was)

length-recounted : (counts : List ℕ) (owner : Option ℕ) (was is : Bool) → length (recounted counts owner was is) ≡ length counts
length-recounted counts None was is = refl
length-recounted counts (Some p) was is = length-set counts p _

-- the count of o among these
counted_with : (o : ℕ) (owner : Option ℕ) (counts : List ℕ) (was is : Bool) (n m : ℕ) → o < length counts → slice_index_or counts o 0 ≡ n
    → m + bit (is_of o owner && was) ≡ n + bit (is_of o owner && is) → slice_index_or (recounted counts owner was is) o 0 ≡ m
counted_with o None counts was is n m within count change = omega arith
counted_with o (Some p) counts was is n m within count change = elim (eqb_tells p o) [
  | inl own ↦
      let at : slice_index_or (recounted counts (Some p) was is) o 0 ≡ slice_index_or counts p 0 + bit is - bit was =
      get_or-set_at counts p o _ 0 (sym own.1) (subst (λ k. k < length counts) (sym own.1) within) in
      let here : slice_index_or counts p 0 ≡ n = ap (λ k. slice_index_or counts k 0) own.1 ∙ count in
      at ∙ omega (arith, here, change, own_place o p was own.0, own_place o p is own.0)
  | inr other ↦ get_or-set_other counts p o _ 0 (λ e. other.1 (sym e)) ∙ count ∙ omega (arith, change, other_place o p was other.0, other_place o p is other.0)
]

-- one mark changes, and its owner's count with it
pub tallied_with : (owners : List (Option ℕ)) (bits : List Bool) (counts : List ℕ) → IsTallied owners bits counts → (i : ℕ) (was is : Bool) → i < length owners → was ≡ bit_at bits i
    → IsTallied owners (slice_set bits i is) (recounted counts (owner_at owners i) was is)
tallied_with owners bits counts kept i was is within was_is = record {
  few = kept.few;
  bits_len = length-set bits i is ∙ kept.bits_len;
  below = λ place. subst (λ n. IfSome (owner_at owners place) (λ o. o < n)) (sym (length-recounted counts (owner_at owners i) was is)) (kept.below place);
  counted = λ o less.
      let here : o < length counts = subst (λ n. o < n) (length-recounted counts (owner_at owners i) was is) less in
      counted_with o (owner_at owners i) counts was is (marked_of owners bits o) (marked_of owners (slice_set bits i is) o) here (kept.counted o here)
      (ap (λ b. marked_of owners (slice_set bits i is) o + bit (is_of o (owner_at owners i) && b)) was_is ∙ marked-set o owners bits i is (omega (arith, kept.bits_len)) kept.bits_len);
}

-- an owner counts a place that is marked, and no more places than there are
pub place_is_counted : (owners : List (Option ℕ)) (bits : List Bool) (counts : List ℕ) → IsTallied owners bits counts → (i p : ℕ) (was : Bool) → i < length owners → was ≡ bit_at bits i → owner_at owners i ≡ Some p
    → (p < length counts) × (slice_index_or counts p 0 + 1 < 2 ^ 32) × (was ≡ true → 0 < slice_index_or counts p 0)
place_is_counted owners bits counts kept i p was within was_is is =
    let less : p < length counts = subst (λ o. IfSome o (λ q. q < length counts)) is (kept.below i) in
    let most : marked_of owners bits p ≤ length owners = omega (arith, count_by-le-length (λ q. is_of p q.0 && q.1) (zip owners bits), length-zip owners bits, kept.bits_len) in
    let change = marked-set p owners bits i false (omega (arith, kept.bits_len)) kept.bits_len in (
      less,
      omega (arith, kept.counted p less, kept.few),
      λ marked.
          let one : bit (is_of p (owner_at owners i) && bit_at bits i) ≡ 1 =
          ap (λ o. bit (is_of p o && bit_at bits i)) is ∙ own_place p p (bit_at bits i) (eq_self p) ∙ ap bit (sym was_is ∙ marked) in
          omega (arith, kept.counted p less, change, one, no_mark (is_of p (owner_at owners i))),
    )

-- one place more is marked
pub marked_more : (bits : List Bool) (i : ℕ) → i < length bits → ((k : ℕ) → k < i → bit_at bits k ≡ true) → (k : ℕ) → k < i + 1 → bit_at (slice_set bits i true) k ≡ true
marked_more bits i within marked k less = elim (cases_lt k i) [
  | inl before ↦ get_or-set_other bits i k true false (λ e. omega (arith, e, before)) ∙ marked k before
  | inr after ↦ get_or-set_at bits i k true false (omega arith) within
]

-- and then each is
pub all_marked : (bits : List Bool) (n : ℕ) → length bits ≡ n → ((k : ℕ) → k < n → bit_at bits k ≡ true) → bits ≡ replicate n true
all_marked bits n long marked = same_lists bits (replicate n true) (omega (arith, long, length-replicate n true)) (λ k d less. get_or_default bits k d false less ∙ marked k (omega arith) ∙ sym (get_or-replicate n k true d (omega arith)))

pub same_marks : (m : Marks) (owners : List (Option ℕ)) (bits : List Bool) → m.owners ≡ owners → m.bits ≡ bits → m ≡ record { owners = owners; bits = bits }
same_marks m owners bits o b = rw (← o, ← b) refl
