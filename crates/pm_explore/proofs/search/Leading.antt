-- Places to which the parents lead, while points are put.
use Rattle.std.proofs.Common.{◌≡◌, ℕ, suc, ◌+◌, ◌<◌, ◌≤◌, Bool, true, false, List, Some, length, slice_get, refl, sym, ◌∙◌, ap, subst, inl, inr, arith}
use Rattle.std.proofs.lemmas.Option.{slice_get_cases, slice_get_within}
use Rattle.pm_explore.specs.search.Growing.{Grows, IsKept, IsLed}
use Rattle.pm_explore.specs.search.Reached.{Reached, ReachedWithin}
use Rattle.pm_explore.specs.search.Reached.Reached.{begins, goes_on, spends}
use Rattle.pm_explore.specs.search.Trees.{IsLedTo, IsLedWithin, IsStep, IsTree}
use Rattle.pm_explore.specs.search.Trees.IsLedTo.{starts, freely, dearly}
use Rattle.pm_explore.proofs.search.Lists.{Grows-map, some_within}
use Rattle.pm_explore.proofs.search.TreeLemmas.{step_kept}

module _ {P : Type 0} (Follows : Bool → P → P → Type 0) where
  led_kept : (old new : List P) (olds news : List ℕ) → IsKept old new → IsKept olds news → {k i : ℕ} → IsLedTo Follows old olds k i → IsLedTo Follows new news k i
  led_kept old new olds news g h starts = starts
  led_kept old new olds news g h (freely parent i l at lt s) = freely parent i (led_kept old new olds news g h l) (h.kept i parent at) lt (step_kept Follows false old new parent i g s)
  led_kept old new olds news g h (dearly parent i l at lt s) = dearly parent i (led_kept old new olds news g h l) (h.kept i parent at) lt (step_kept Follows true old new parent i g s)

  pub within_kept : (old new : List P) (olds news : List ℕ) (k i : ℕ) → IsKept old new → IsKept olds news → IsLedWithin Follows old olds k i → IsLedWithin Follows new news k i
  within_kept old new olds news k i g h l = record { spent = l.spent; few = l.few; led = led_kept old new olds news g h l.led }

  pub within_more : (points : List P) (parents : List ℕ) (j k i : ℕ) → j ≤ k → IsLedWithin Follows points parents j i → IsLedWithin Follows points parents k i
  within_more points parents j k i le l = record { spent = l.spent; few = omega (arith, l.few, le); led = l.led }

  -- by one step more
  abbrev cost : Bool → ℕ → ℕ
  cost true k = k + 1
  cost false k = k

  one_more : (b : Bool) (points : List P) (parents : List ℕ) (k parent i : ℕ) → IsLedWithin Follows points parents k parent → slice_get parents i ≡ Some parent → parent < i → IsStep Follows b points parent i
      → IsLedWithin Follows points parents (cost b k) i
  one_more false points parents k parent i l at lt s = record { spent = l.spent; few = l.few; led = freely parent i l.led at lt s }
  one_more true points parents k parent i l at lt s = record { spent = suc l.spent; few = omega (arith, l.few); led = dearly parent i l.led at lt s }

  -- one point was spread; this place is new
  new_place : (b : Bool) (start : P) (old new : List P) (olds news : List ℕ) (k at : ℕ) (p : P) (i : ℕ) → IsTree Follows start old olds → IsTree Follows start new news → slice_get old at ≡ Some p
      → Grows (Follows b p) old new → Grows (λ x. x ≡ at) olds news → IsLedWithin Follows old olds k at → length old ≤ i → i < length new → IsLedWithin Follows new news (cost b k) i
  new_place b start old new olds news k at p i told tnew there g h l ge lt =
      let q = some_within new i lt in
      let x = some_within news i (omega (arith, lt, tnew.each)) in
      let follows : Follows b p q.0 = elim (g.added i q.0 q.1) [ inl before ↦ absurd (omega (arith, slice_get_within old i q.0 before, ge)) | inr f ↦ f ] in
      let is : x.0 ≡ at = elim (h.added i x.0 x.1) [ inl before ↦ absurd (omega (arith, slice_get_within olds i x.0 before, ge, told.each)) | inr e ↦ e ] in
      let kept : IsKept old new = Grows-map (Follows b p) (λ y. Unit {0}) old new (λ y f. tt) g in
      let kepts : IsKept olds news = Grows-map (λ y. y ≡ at) (λ y. Unit {0}) olds news (λ y f. tt) h in
      one_more b new news k at i (within_kept old new olds news k at kept kepts l) (x.1 ∙ ap Some is) (omega (arith, slice_get_within old at p there, ge))
      (record { point = p; next = q.0; at = g.kept at p there; next_at = q.1; follows = follows })

  -- a place of a list in which one was spread is old or new
  spread_place : (b : Bool) (start : P) (old new : List P) (olds news : List ℕ) (j k at : ℕ) (i : ℕ) → IsTree Follows start old olds → IsTree Follows start new news → at < length old
      → ((p : P) → slice_get old at ≡ Some p → Grows (Follows b p) old new) → Grows (λ x. x ≡ at) olds news → IsLedWithin Follows old olds k at → IsLed Follows j old olds → cost b k ≤ j → i < length new
      → IsLedWithin Follows new news j i
  spread_place b start old new olds news j k at i told tnew lt g h l all le inside =
      let p = some_within old at lt in
      let kept : IsKept old new = Grows-map (Follows b p.0) (λ y. Unit {0}) old new (λ y f. tt) (g p.0 p.1) in
      let kepts : IsKept olds news = Grows-map (λ y. y ≡ at) (λ y. Unit {0}) olds news (λ y f. tt) h in
      elim (slice_get_cases old i).1 [
        | inl before ↦ within_kept old new olds news j i kept kepts (all i before.1)
        | inr past ↦ within_more new news (cost b k) j i le (new_place b start old new olds news k at p.0 i told tnew p.1 (g p.0 p.1) h l past.0 inside)
      ]

  pub led_free : (start : P) (old new : List P) (olds news : List ℕ) (k at : ℕ) → IsTree Follows start old olds → IsTree Follows start new news → at < length old
      → ((p : P) → slice_get old at ≡ Some p → Grows (Follows false p) old new) → Grows (λ x. x ≡ at) olds news → IsLed Follows k old olds → IsLed Follows k new news
  led_free start old new olds news k at told tnew lt g h all i inside = spread_place false start old new olds news k k at i told tnew lt g h (all at lt) all (omega arith) inside

  -- one of the first ones, which are led to within k, is spread by steps that spend
  pub led_dear : (start : P) (first old new : List P) (firsts olds news : List ℕ) (k at : ℕ) → IsTree Follows start old olds → IsTree Follows start new news → IsKept first old → IsKept firsts olds → at < length first
      → ((p : P) → slice_get old at ≡ Some p → Grows (Follows true p) old new) → Grows (λ x. x ≡ at) olds news → IsLed Follows k first firsts → IsLed Follows (k + 1) old olds → IsLed Follows (k + 1) new news
  led_dear start first old new firsts olds news k at told tnew kept kepts lt g h before all i inside =
      spread_place true start old new olds news (k + 1) k at i told tnew (omega (arith, lt, kept.longer)) g h (within_kept first old firsts olds k at kept kepts (before at lt)) all (omega arith) inside

  pub led_more : (points : List P) (parents : List ℕ) (j k : ℕ) → j ≤ k → IsLed Follows j points parents → IsLed Follows k points parents
  led_more points parents j k le all i inside = within_more points parents j k i le (all i inside)

  -- where the parents lead is reached
  pub reached : (start : P) (points : List P) (parents : List ℕ) → IsTree Follows start points parents → {k i : ℕ} (p : P) → IsLedTo Follows points parents k i → slice_get points i ≡ Some p → Reached Follows start k p
  reached start points parents t p starts there = subst (Reached Follows start 0) (sym (t.first p there)) begins
  reached start points parents t p (freely {k = k} parent i l at lt s) there =
      let same : s.next ≡ p = (let a = s.next_at in cc) in
      subst (Reached Follows start k) same (goes_on s.point s.next (reached start points parents t s.point l s.at) s.follows)
  reached start points parents t p (dearly {k = k} parent i l at lt s) there =
      let same : s.next ≡ p = (let a = s.next_at in cc) in
      subst (Reached Follows start (suc k)) same (spends s.point s.next (reached start points parents t s.point l s.at) s.follows)

  pub reached_within : (start : P) (points : List P) (parents : List ℕ) (k : ℕ) → IsTree Follows start points parents → IsLed Follows k points parents → (i : ℕ) (p : P) → slice_get points i ≡ Some p → ReachedWithin Follows start k p
  reached_within start points parents k t all i p there =
      let l = all i (slice_get_within points i p there) in
      record { spent = l.spent; few = l.few; reached = reached start points parents t p l.led there }
