-- The walk that counts the domains that go off, in the words of `going_off`.
use Rattle.std.proofs.Common.{◌≡◌, ℕ, zero, suc, ◌+◌, ◌<◌, ◌≤◌, Bool, true, false, ◌&&◌, List, [], ◌∷◌, Option, None, Some, length, set, refl, sym, ap, ◌∙◌, inl, inr, arith}
use Rattle.std.specs.Prelude.{IfSome, slice_get}
use Rattle.std.specs.Option.{option_map_or}
use Rattle.std.proofs.lemmas.Bool.{cases_Bool, cases_eq, cond-false, cond-true, eqb-true}
use Rattle.std.proofs.lemmas.Grind.{get_or-set_at}
use Rattle.std.proofs.lemmas.List.{get_or-set_other, length-set}
use Rattle.std.proofs.lemmas.Option.{IfSome_then}
use Rattle.pm_base.specs.declared.DevId.{DevId}
use Rattle.pm_base.specs.declared.DomId.{DomId}
use Rattle.pm_model.specs.declared.plan.Plan.{Plan}
use Rattle.pm_model.specs.Derived.{down, goes_off, going_off}
use Rattle.pm_model.specs.PlanRows.{chain, domain, domain_parent, domains_of}
use Rattle.pm_model.specs.Views.{Views}
use Rattle.pm_index.specs.OwnMarks.{bit_at, is_of, owner_at, unmarked}
use Rattle.pm_domain.specs.Domains.{DomainViews, IsAwakeOf, IsMadeFor, above, place_of}
use Rattle.pm_domain.specs.Walk.{goes_off_from, going_off_from, rank, switched}
use Rattle.pm_domain.proofs.ChainLemmas.{few_domains, home_within, length-chain, parent_earlier}
use Rattle.pm_domain.proofs.MemberLemmas.{above_at, are_off-counted, are_quiet-counted}

-- the first domains of a chain that go off, as so many of the chain
pub going_off-chain : (plan : Plan) (domains : DomainViews) (d : DevId) (from : Option ℕ) (n : ℕ) (next : Option DomId) → going_off_from plan domains d from (chain plan.domains n next) ≡ chain plan.domains (length (going_off_from plan domains d from (chain plan.domains n next))) next
going_off-chain plan domains d from zero next = refl
going_off-chain plan domains d from (suc n) None = refl
going_off-chain plan domains d from (suc n) (Some o) = elim (cases_Bool (goes_off_from plan domains d from o.0)) [
  | inl off ↦ rw off (ap (λ rest. o.0 ∷ rest) (going_off-chain plan domains d (Some o.0) n (domain_parent plan.domains o)))
  | inr stays ↦ rw stays refl
]

abbrev rank_above : Plan → ℕ → ℕ
rank_above plan k = rank (domain_parent plan.domains (record { 0 = k }))

-- it ranks no higher than the place
rank_above_le : (plan : Plan) (k : ℕ) → rank_above plan k ≤ k
rank_above_le plan k = least (domain_parent plan.domains (record { 0 = k })) (parent_earlier plan (record { 0 = k }))
  where
    least : (q : Option DomId) → IfSome q (λ p. (p.0 < k) × (p.0 < length plan.domains)) → rank q ≤ k
    least None h = omega arith
    least (Some p) h = omega (arith, h.0)

-- the walk has come to `next`, and `now` has what was on without the domains on the way
record IsWalked (plan : Plan) (on now : List Bool) (from : Option ℕ) (next : Option DomId) : Type 0 where
  pub long : length now ≡ length on
  pub same : (k : ℕ) → rank_above plan k ≤ rank next → bit_at now k ≡ bit_at (unmarked from on) k
  pub comes : IfSome from (λ k. rank_above plan k ≡ rank next)

walk_starts : (plan : Plan) (on : List Bool) (next : Option DomId) → IsWalked plan on on None next
walk_starts plan on next = record { long = refl; same = λ k le. refl; comes = tt }

-- what is below is as it was
is_kept : (plan : Plan) (on now : List Bool) (from : Option ℕ) (next : Option DomId) → IsWalked plan on now from next → (k : ℕ) → rank_above plan k < rank next → bit_at now k ≡ bit_at on k
is_kept plan on now None next walked k lt = walked.same k (omega arith)
is_kept plan on now (Some f) next walked k lt =
    walked.same k (omega arith) ∙ get_or-set_other on f k false false (λ same. let here = ap (λ (i : ℕ). rank_above plan i) same in omega (arith, here, walked.comes))

walk_goes_on : (plan : Plan) (on now : List Bool) (from : Option ℕ) (o : DomId) → o.0 < length on → IsWalked plan on now from (Some o) → IsWalked plan on (set now o.0 false) (Some o.0) (domain_parent plan.domains o)
walk_goes_on plan on now from o lt walked = record {
  long = length-set now o.0 false ∙ walked.long;
  same = λ k le. elim (cases_eq k o.0) [
    | inl here ↦ get_or-set_at now o.0 k false false here (omega (arith, walked.long)) ∙ sym (get_or-set_at on o.0 k false false here lt)
    | inr other ↦
        let le_o = rank_above_le plan o.0 in
        let low : rank_above plan k < rank (Some o) = omega (arith, le, le_o) in
        get_or-set_other now o.0 k false false other ∙ is_kept plan on now from (Some o) walked k low ∙ sym (get_or-set_other on o.0 k false false other)
  ];
  comes = refl;
}

slice_get-bit : (on : List Bool) (o : ℕ) → option_map_or (λ b. b) (slice_get on o) false ≡ bit_at on o
slice_get-bit [] o = refl
slice_get-bit (b ∷ on) zero = refl
slice_get-bit (b ∷ on) (suc o) = slice_get-bit on o

-- the parts of a test of two kinds
four_tests : (a b c d a' b' c' d' : Bool) → a ≡ a' → b ≡ b' → c ≡ c' → d ≡ d' → (a && b && c && d) ≡ (a' && b' && c' && d')
four_tests a b c d a' b' c' d' pa pb pc pd = cc

module _ (plan : Plan) (domains : DomainViews) (made : IsMadeFor plan domains) (v : Views) (d : DevId) (says : IsAwakeOf domains.awake v) where
  goes_off_walked : (now : List Bool) (from : Option ℕ) (o : DomId) → IsWalked plan domains.on now from (Some o) → goes_off plan v d now o.0 ≡ goes_off_from plan domains d from o.0
  goes_off_walked now from o walked =
      let le_o = rank_above_le plan o.0 in
      let here : bit_at now o.0 ≡ bit_at domains.on o.0 = is_kept plan domains.on now from (Some o) walked o.0 (omega arith) in
      let under : (k : ℕ) → k < length plan.domains → is_of o.0 (owner_at (above plan) k) ≡ true → bit_at now k ≡ bit_at (unmarked from domains.on) k = λ k lt_k mine.
      walked.same k (rank_of (domain_parent plan.domains (record { 0 = k })) (ap (is_of o.0) (sym (above_at plan.domains k)) ∙ mine))
      in
      four_tests _ _ _ _ _ _ _ _ (slice_get-bit now o.0 ∙ here) refl (sym (are_quiet-counted plan domains made o.0 v d says)) (sym (are_off-counted plan domains made o.0 from now (walked.long ∙ made.on_len) under))
    where
      rank_of : (q : Option DomId) → is_of o.0 (place_of q) ≡ true → rank q ≤ rank (Some o)
      rank_of None mine = omega arith
      rank_of (Some p) mine = omega (arith, eqb-true p.0 o.0 mine)

  going_off_walked : (n : ℕ) (now : List Bool) (from : Option ℕ) (next : Option DomId) → IfSome next (λ o. o.0 < length plan.domains) → IsWalked plan domains.on now from next → going_off plan v d now (chain plan.domains n next) ≡ going_off_from plan domains d from (chain plan.domains n next)
  going_off_walked zero now from next within walked = refl
  going_off_walked (suc n) now from None within walked = refl
  going_off_walked (suc n) now from (Some o) within walked =
      let same = goes_off_walked now from o walked in
      let parents_within : IfSome (domain_parent plan.domains o) (λ p. p.0 < length plan.domains) = IfSome_then (domain_parent plan.domains o) (parent_earlier plan o) (λ p h. h.1) in
      let rest = going_off_walked n (set now o.0 false) (Some o.0) (domain_parent plan.domains o) parents_within (walk_goes_on plan domains.on now from o (omega (arith, made.on_len)) walked) in
      elim (cases_Bool (goes_off_from plan domains d from o.0)) [
        | inl off ↦ cond-true _ _ _ (same ∙ off) ∙ ap (λ above. o.0 ∷ above) rest ∙ sym (cond-true _ _ _ off)
        | inr stays ↦ cond-false _ _ _ (same ∙ stays) ∙ sym (cond-false _ _ _ stays)
      ]

  -- the walk from the device's domain
  pub down-walked : v.on ≡ domains.on → down plan v d ≡ going_off_from plan domains d None (domains_of plan d)
  unfolding down domains_of
  down-walked on = rw on (going_off_walked (length plan.domains) domains.on None (domain plan d) (home_within plan d) (walk_starts plan domains.on (domain plan d)))

  pub down-switched : v.on ≡ domains.on → switched false domains.on (chain plan.domains (length (going_off_from plan domains d None (domains_of plan d))) (domain plan d)) ≡ switched false v.on (down plan v d)
  unfolding domains_of
  down-switched on =
      ap (switched false domains.on) (sym (going_off-chain plan domains d None (length plan.domains) (domain plan d)) ∙ sym (down-walked on)) ∙ ap (λ bits. switched false bits (down plan v d)) (sym on)

length-going_off : (plan : Plan) (domains : DomainViews) (d : DevId) (from : Option ℕ) (os : List ℕ) → length (going_off_from plan domains d from os) ≤ length os
length-going_off plan domains d from [] = omega arith
length-going_off plan domains d from (o ∷ os) = elim (cases_Bool (goes_off_from plan domains d from o)) [
  | inl off ↦ rw off (omega (arith, length-going_off plan domains d (Some o) os))
  | inr stays ↦ rw stays (omega arith)
]

-- no count of domains is great
pub few_going_off : (plan : Plan) (domains : DomainViews) (d : DevId) → length (going_off_from plan domains d None (domains_of plan d)) ≤ 128
unfolding domains_of
few_going_off plan domains d =
    omega (arith, length-going_off plan domains d None (chain plan.domains (length plan.domains) (domain plan d)), length-chain plan.domains (length plan.domains) (domain plan d), few_domains plan)

-- a domain more
pub counted_off : (plan : Plan) (domains : DomainViews) (d : DevId) (from : Option ℕ) (o : DomId) (rest : List ℕ) (count total : ℕ) → goes_off_from plan domains d from o.0 ≡ true → count + length (going_off_from plan domains d from (o.0 ∷ rest)) ≡ total → count + 1 + length (going_off_from plan domains d (Some o.0) rest) ≡ total
counted_off plan domains d from o rest count total off was = let h = rw off at was in omega arith

-- and the last
pub counted_last : (plan : Plan) (domains : DomainViews) (d : DevId) (from : Option ℕ) (o : DomId) (rest : List ℕ) (count total : ℕ) → goes_off_from plan domains d from o.0 ≡ false → count + length (going_off_from plan domains d from (o.0 ∷ rest)) ≡ total → count ≡ total
counted_last plan domains d from o rest count total stays was = let h = rw stays at was in omega arith
