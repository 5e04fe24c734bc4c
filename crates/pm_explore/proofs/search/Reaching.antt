-- From points that are spread to all that is reached.
use Rattle.std.proofs.Common.{◌≡◌, ℕ, zero, suc, ◌+◌, ◌<◌, ◌≤◌, Bool, true, false, List, [], ◌∷◌, ◌++◌, Some, length, slice_get, refl, sym, ◌∙◌, ap, subst, inl, inr, arith, below_more, length-append}
use Rattle.pm_explore.specs.search.Exact.{AreExact, EndWithAll, IsAmong, IsExact, IsWhole}
use Rattle.pm_explore.specs.search.Growing.{AreSpread, Grows, IsKept, IsLed, IsSpread}
use Rattle.pm_explore.specs.search.Reached.{Reached, ReachedWithin}
use Rattle.pm_explore.specs.search.Reached.Reached.{begins, goes_on, spends}
use Rattle.pm_explore.specs.search.Trees.{AreLed, IsLedWithin, IsTree}
use Rattle.pm_explore.specs.search.Trees.IsLedTo.{starts}
use Rattle.pm_explore.proofs.search.Leading.{reached_within, within_kept}
use Rattle.pm_explore.proofs.search.Lists.{Grows-back, Grows-trans, IsAmong-grows, slice_get-mid, slice_get-push, some_within}

module _ {P : Type 0} (Follows : Bool → P → P → Type 0) where
  pub spread_kept : (b : Bool) (count : ℕ) (old new : List P) → IsKept old new → count ≤ length old → AreSpread Follows b count old → AreSpread Follows b count new
  spread_kept b count old new g le spread i lt p h q f = IsAmong-grows (λ y. Unit {0}) old new q g (spread i lt p (Grows-back (λ y. Unit {0}) old new g i p (omega (arith, lt, le)) h) q f)

  -- one point more is spread
  pub spread_next : (b : Bool) (i : ℕ) (old new : List P) → IsKept old new → i < length old → AreSpread Follows b i old → ((p : P) → slice_get old i ≡ Some p → IsSpread Follows b new p) → AreSpread Follows b (i + 1) new
  spread_next b i old new g lt spread one =
      below_more (λ j. (p : P) → slice_get new j ≡ Some p → IsSpread Follows b new p) i (spread_kept b i old new g (omega (arith, lt)) spread)
      (λ p h. one p (Grows-back (λ y. Unit {0}) old new g i p lt h))

module _ {P : Type 0} (Follows : Bool → P → P → Type 0) (start : P) where
  -- what steps that spend lead to from points that are reached within less than k
  abbrev AreSpent : ℕ → List P → Type 0
  AreSpent k points = (j : ℕ) (p q : P) → j < k → Reached Follows start j p → Follows true p q → IsAmong points (length points) q

  step_among : (b : Bool) (bound : ℕ) (points : List P) → AreSpread Follows b bound points → (p q : P) → IsAmong points bound p → Follows b p q → IsAmong points (length points) q
  step_among b bound points spread p q a f = spread a.place a.below p a.there q f

  complete : (k : ℕ) (points : List P) → AreSpread Follows false (length points) points → IsAmong points (length points) start → AreSpent k points → {j : ℕ} {p : P} → Reached Follows start j p → j ≤ k
      → IsAmong points (length points) p
  complete k points spread first spent begins le = first
  complete k points spread first spent (goes_on p q r f) le = step_among false (length points) points spread p q (complete k points spread first spent r le) f
  complete k points spread first spent (spends {k = j} p q r f) le = spent j p q (omega (arith, le)) r f

  -- a round is complete
  exact : (k : ℕ) (points : List P) → AreSpread Follows false (length points) points → IsAmong points (length points) start → AreSpent k points
      → ((i : ℕ) (p : P) → slice_get points i ≡ Some p → ReachedWithin Follows start k p) → IsExact Follows start k points (length points)
  exact k points spread first spent r = record {
    within = omega arith;
    sound = λ i p lt h. r i p h;
    complete = λ p within. complete k points spread first spent within.reached within.few;
  }

  -- and stays so
  exact_kept : (k : ℕ) (old new : List P) (bound : ℕ) → IsKept old new → IsExact Follows start k old bound → IsExact Follows start k new bound
  exact_kept k old new bound g e = record {
    within = omega (arith, e.within, g.longer);
    sound = λ i p lt h. e.sound i p lt (Grows-back (λ y. Unit {0}) old new g i p (omega (arith, lt, e.within)) h);
    complete = λ p r. let a = e.complete p r in record { place = a.place; below = a.below; there = g.kept a.place p a.there };
  }

  -- all that steps that spend lead to from a complete round is there
  spent_next : (k : ℕ) (points : List P) (bound : ℕ) → IsExact Follows start k points bound → AreSpread Follows true bound points → AreSpent (k + 1) points
  spent_next k points bound e spread j p q lt r f = step_among true bound points spread p q (e.complete p (record { spent = j; few = omega (arith, lt); reached = r })) f

  everything : (points : List P) → AreSpread Follows false (length points) points → AreSpread Follows true (length points) points → IsAmong points (length points) start → {j : ℕ} {p : P} → Reached Follows start j p
      → IsAmong points (length points) p
  everything points free dear first begins = first
  everything points free dear first (goes_on p q r f) = step_among false (length points) points free p q (everything points free dear first r) f
  everything points free dear first (spends p q r f) = step_among true (length points) points dear p q (everything points free dear first r) f

  pub exacts_kept : (old new : List P) (ends : List ℕ) → IsKept old new → AreExact Follows start old ends → AreExact Follows start new ends
  exacts_kept old new ends g each k bound h = exact_kept k old new bound g (each k bound h)

  pub leds_kept : (old new : List P) (olds news ends : List ℕ) → IsKept old new → IsKept olds news → AreLed Follows old olds ends → AreLed Follows new news ends
  leds_kept old new olds news ends g h each k bound i is lt = within_kept Follows old new olds news k i g h (each k bound i is lt)

  nowhere : (ends : List ℕ) → ends ≡ [] → (k bound : ℕ) → slice_get ends k ≡ Some bound → ⊥
  nowhere ends e k bound h = nothing k bound (subst (λ l. slice_get l k ≡ Some bound) e h)
    where
      nothing : (k bound : ℕ) → slice_get [] k ≡ Some bound → ⊥
      nothing k bound h = cc h

  -- before any round
  pub no_exact : (points : List P) (ends : List ℕ) → ends ≡ [] → AreExact Follows start points ends
  no_exact points ends e k bound h = absurd (nowhere ends e k bound h)

  pub no_led : (points : List P) (parents ends : List ℕ) → ends ≡ [] → AreLed Follows points parents ends
  no_led points parents ends e k bound i h lt = absurd (nowhere ends e k bound h)

  -- What is known as a round begins: k steps may spend, all of the points are spread by free steps, the first so many by
  -- those that spend too, and the list has the end of each round so far.
  pub record Round (k : ℕ) (points : List P) (parents : List ℕ) (spent : ℕ) (ends : List ℕ) : Type 0 where
    pub first : IsAmong points (length points) start
    pub tree : IsTree Follows start points parents
    pub led : IsLed Follows k points parents
    pub free : AreSpread Follows false (length points) points
    pub within : spent ≤ length points
    pub dear : AreSpread Follows true spent points
    pub last : IsExact Follows start k points (length points)
    pub count : length ends ≡ k + 1
    pub end : slice_get ends k ≡ Some (length points)
    pub exact : AreExact Follows start points ends
    pub ways : AreLed Follows points parents ends

  one_exact : (k : ℕ) (old new : List P) (ends : List ℕ) → IsKept old new → length ends ≡ k → AreExact Follows start old ends → IsExact Follows start k new (length new) → AreExact Follows start new (ends ++ length new ∷ [])
  one_exact k old new ends g count each here j bound h =
      elim (slice_get-push ends (length new) j bound h) [
        | inl before ↦ exact_kept j old new bound g (each j bound before)
        | inr at ↦ subst (λ i. IsExact Follows start i new bound) (sym (at.0 ∙ count)) (subst (λ x. IsExact Follows start k new x) (sym at.1) here)
      ]

  one_led : (k : ℕ) (old new : List P) (olds news ends : List ℕ) → IsKept old new → IsKept olds news → length ends ≡ k → AreLed Follows old olds ends → IsLed Follows k new news → AreLed Follows new news (ends ++ length new ∷ [])
  one_led k old new olds news ends g h count each here j bound i is lt =
      elim (slice_get-push ends (length new) j bound is) [
        | inl before ↦ within_kept Follows old new olds news j i g h (each j bound i before lt)
        | inr at ↦ let e : j ≡ k = at.0 ∙ count in let l = here i (omega (arith, lt, at.1)) in subst (λ n. IsLedWithin Follows new news n i) (sym e) l
      ]

  -- the first round ends
  pub round_begins : (points : List P) (parents ends : List ℕ) → IsTree Follows start points parents → IsAmong points (length points) start → IsLed Follows 0 points parents → AreSpread Follows false (length points) points
      → ends ≡ length points ∷ [] → Round 0 points parents 0 ends
  round_begins points parents ends t first led free e =
      let here = exact 0 points free first (λ j p q lt r f. absurd (omega (arith, lt))) (reached_within Follows start points parents 0 t led) in
      record {
        first = first;
        tree = t;
        led = led;
        free = free;
        within = omega arith;
        dear = λ i lt. absurd (omega (arith, lt));
        last = here;
        count = let one : length (length points ∷ []) ≡ 1 = refl in omega (arith, one, ap length e);
        end = ap (λ l. slice_get l 0) e;
        exact = λ k bound h. alone here k bound (subst (λ l. slice_get l k ≡ Some bound) e h);
        ways = λ k bound i h lt. ways k bound i (subst (λ l. slice_get l k ≡ Some bound) e h) lt;
      }
    where
      alone : IsExact Follows start 0 points (length points) → (k bound : ℕ) → slice_get (length points ∷ []) k ≡ Some bound → IsExact Follows start k points bound
      alone here zero bound h = let same : bound ≡ length points = cc h in subst (IsExact Follows start 0 points) (sym same) here
      alone here (suc k) bound h = cc h

      ways : (k bound i : ℕ) → slice_get (length points ∷ []) k ≡ Some bound → i < bound → IsLedWithin Follows points parents k i
      ways zero bound i h lt = let same : bound ≡ length points = cc h in led i (omega (arith, lt, same))
      ways (suc k) bound i h lt = cc h

  -- one more ends: steps that spend, and then free ones
  pub round_goes_on : (k : ℕ) (old mid new : List P) (olds mids news : List ℕ) (spent : ℕ) (ends ends' : List ℕ) → Round k old olds spent ends → IsKept old mid → IsKept olds mids → AreSpread Follows true (length old) mid
      → IsTree Follows start new news → IsKept mid new → IsKept mids news → IsLed Follows (k + 1) new news → AreSpread Follows false (length new) new → ends' ≡ ends ++ length new ∷ [] → Round (k + 1) new news (length old) ends'
  round_goes_on k old mid new olds mids news spent ends ends' r gm hm dear t gn hn led free e =
      let g : IsKept old new = Grows-trans (λ y. Unit {0}) (λ y. Unit {0}) (λ y. Unit {0}) old mid new (λ y u. tt) (λ y u. tt) gm gn in
      let h : IsKept olds news = Grows-trans (λ y. Unit {0}) (λ y. Unit {0}) (λ y. Unit {0}) olds mids news (λ y u. tt) (λ y u. tt) hm hn in
      let dear' = spread_kept Follows true (length old) mid new gn gm.longer dear in
      let first = IsAmong-grows (λ y. Unit {0}) old new start g r.first in
      let here = exact (k + 1) new free first (spent_next k new (length old) (exact_kept k old new (length old) g r.last) dear') (reached_within Follows start new news (k + 1) t led) in
      record {
        first = first;
        tree = t;
        led = led;
        free = free;
        within = g.longer;
        dear = dear';
        last = here;
        count = omega (arith, ap length e, length-append ends (length new ∷ []), r.count);
        end = ap (λ l. slice_get l (k + 1)) e ∙ subst (λ n. slice_get (ends ++ length new ∷ []) n ≡ Some (length new)) r.count (slice_get-mid ends [] (length new));
        exact = subst (AreExact Follows start new) (sym e) (one_exact (k + 1) old new ends g r.count r.exact here);
        ways = subst (AreLed Follows new news) (sym e) (one_led (k + 1) old new olds news ends g h r.count r.ways led);
      }

  -- steps that spend lead to nothing new
  pub round_whole : (k : ℕ) (old mid : List P) (olds mids : List ℕ) (spent : ℕ) (ends : List ℕ) → Round k old olds spent ends → IsKept old mid → IsTree Follows start mid mids → IsLed Follows (k + 1) mid mids
      → AreSpread Follows true (length old) mid → length mid ≡ length old → IsWhole Follows start mid
  round_whole k old mid olds mids spent ends r g t led dear same =
      let free = spread_kept Follows false (length old) old mid g (omega arith) r.free in
      let first = IsAmong-grows (λ y. Unit {0}) old mid start g r.first in
      record {
        sound = λ i p h. let w = reached_within Follows start mid mids (k + 1) t led i p h in (w.spent, w.reached);
        complete = λ p reached. everything mid (subst (λ n. AreSpread Follows false n mid) (sym same) free) (subst (λ n. AreSpread Follows true n mid) (sym same) dear) first reached.1;
      }

  -- and the last round has all
  pub round_ends : (k : ℕ) (old mid : List P) (olds : List ℕ) (spent : ℕ) (ends : List ℕ) → Round k old olds spent ends → length mid ≡ length old → EndWithAll mid ends
  round_ends k old mid olds spent ends r same = record { last = k; is_last = r.count; all = r.end ∙ ap Some (sym same) }

  -- the start alone
  led_first : IsLed Follows 0 (start ∷ []) (0 ∷ [])
  led_first zero lt = record { spent = 0; few = omega arith; led = starts }
  led_first (suc i) lt = absurd (omega (arith, lt))

  pub led_begins : (points : List P) (parents : List ℕ) → points ≡ start ∷ [] → parents ≡ 0 ∷ [] → IsLed Follows 0 points parents
  led_begins points parents e h = subst (IsLed Follows 0 points) (sym h) (subst (λ l. IsLed Follows 0 l (0 ∷ [])) (sym e) led_first)

  -- no point
  pub led_none : (k : ℕ) (points : List P) (parents : List ℕ) → points ≡ [] → IsLed Follows k points parents
  led_none k points parents e i lt = absurd (omega (arith, lt, ap length e))
