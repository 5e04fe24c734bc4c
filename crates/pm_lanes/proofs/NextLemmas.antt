-- The first piece of each lane, a piece more at the front.
use Rattle.std.proofs.Common.{ℕ, ◌≡◌, ◌+◌, ◌<◌, ◌≤◌, Bool, true, false, List, Option, Some, None, cond, get_or, length, nat_eq, set, slice_get, ap, refl, sym, subst, ◌∙◌, arith}
use Rattle.std.proofs.lemmas.Bool.{eqb-false, eqb-true}
use Rattle.std.proofs.lemmas.Grind.{get_or-set_at}
use Rattle.std.proofs.lemmas.List.{get_or-set_other, length-set}
use Rattle.std.proofs.lemmas.Option.{get_or_from_slice_get, slice_get-get_or, slice_get_within}
use Rattle.pm_lanes.specs.declared.shown.Lane.{Lane}
use Rattle.pm_lanes.specs.declared.shown.Piece.{Piece}
use Rattle.pm_lanes.specs.Lanes.{IsFirst, IsIn, lane_of}

-- the piece at the front is one of the lane
hit : (pieces : List Piece) (k : ℕ) (l : Lane) (p : Piece) → slice_get pieces k ≡ Some p → lane_of p.shown ≡ l → IsFirst pieces k l (Some k)
hit pieces k l p at is = (omega arith, (p, at, is), λ i from below isin. omega (arith, from, below))

not_here : (pieces : List Piece) (k i : ℕ) (l : Lane) (p : Piece) → slice_get pieces k ≡ Some p → (lane_of p.shown ≡ l → ⊥) → i ≡ k → IsIn pieces i l → ⊥
not_here pieces k i l p at other same isin =
    let here : slice_get pieces k ≡ Some isin.0 = ap (slice_get pieces) (sym same) ∙ isin.1 in
    let one : isin.0 ≡ p = cc (here, at) in
    other (ap (λ (x : Piece). lane_of x.shown) (sym one) ∙ isin.2)

-- it is one of another lane
miss : (pieces : List Piece) (k : ℕ) (l : Lane) (p : Piece) (o : Option ℕ) → slice_get pieces k ≡ Some p → (lane_of p.shown ≡ l → ⊥) → IsFirst pieces (k + 1) l o → IsFirst pieces k l o
miss pieces k l p (Some j) at other first = (omega (arith, first.0), first.1, λ i from below isin. go i from below isin (nat_eq i k) refl)
  where
    go : (i : ℕ) → k ≤ i → i < j → IsIn pieces i l → (b : Bool) → nat_eq i k ≡ b → ⊥
    go i from below isin true is = not_here pieces k i l p at other (eqb-true i k is) isin
    go i from below isin false is =
        let above : k + 1 ≤ i = let apart = eqb-false i k is in omega (arith, from, apart) in
        first.2 i above below isin
miss pieces k l p None at other first = λ i from isin. go i from isin (nat_eq i k) refl
  where
    go : (i : ℕ) → k ≤ i → IsIn pieces i l → (b : Bool) → nat_eq i k ≡ b → ⊥
    go i from isin true is = not_here pieces k i l p at other (eqb-true i k is) isin
    go i from isin false is =
        let above : k + 1 ≤ i = let apart = eqb-false i k is in omega (arith, from, apart) in
        first i above isin

-- what is known of each lane with the piece at the front
pub first_step : (eq : Lane → Lane → Bool) → ((a b : Lane) → eq a b ≡ true → a ≡ b) → ((a : Lane) → eq a a ≡ true)
    → (pieces : List Piece) (k : ℕ) (p : Piece) (key q : Lane) (old new : Option ℕ) → slice_get pieces k ≡ Some p → key ≡ lane_of p.shown
    → new ≡ cond (eq key q) (Some k) old → IsFirst pieces (k + 1) q old → IsFirst pieces k q new
first_step eq alike itself pieces k p key q old new at is now first = go (eq key q) refl
  where
    go : (b : Bool) → eq key q ≡ b → IsFirst pieces k q new
    go true same = subst (IsFirst pieces k q) (sym (now ∙ ap (λ b. cond b (Some k) old) same)) (hit pieces k q p at (sym is ∙ alike key q same))
    go false other =
        subst (IsFirst pieces k q) (sym (now ∙ ap (λ b. cond b (Some k) old) other))
        (miss pieces k q p old at (λ here. let same : eq key q ≡ true = subst (λ x. eq key x ≡ true) (is ∙ here) (itself key) in cc (same, other)) first)

-- the next one is known of each piece with the one at the front
pub done_step : (pieces : List Piece) (place : ℕ) (front : Piece) (nexts : List (Option ℕ)) (was : Option ℕ) → slice_get pieces place ≡ Some front → place < length nexts
    → IsFirst pieces (place + 1) (lane_of front.shown) was
    → ((i : ℕ) (p : Piece) → place + 1 ≤ i → slice_get pieces i ≡ Some p → (next : Option ℕ) → slice_get nexts i ≡ Some next → IsFirst pieces (i + 1) (lane_of p.shown) next)
    → (i : ℕ) (p : Piece) → place ≤ i → slice_get pieces i ≡ Some p → (next : Option ℕ) → slice_get (set nexts place was) i ≡ Some next → IsFirst pieces (i + 1) (lane_of p.shown) next
done_step pieces place front nexts was at within first rest i p from here next is = go (nat_eq i place) refl
  where
    value : get_or (set nexts place was) i None ≡ next
    value = get_or_from_slice_get (set nexts place was) i next None is

    go : (b : Bool) → nat_eq i place ≡ b → IsFirst pieces (i + 1) (lane_of p.shown) next
    go true same =
        let one : i ≡ place = eqb-true i place same in
        let was_is : was ≡ next = sym (get_or-set_at nexts place i was None one within) ∙ value in
        let piece : front ≡ p = let both : slice_get pieces place ≡ Some p = ap (slice_get pieces) (sym one) ∙ here in cc (both, at) in
        subst (λ n. IsFirst pieces (n + 1) (lane_of p.shown) next) (sym one)
        (subst (λ (x : Piece). IsFirst pieces (place + 1) (lane_of x.shown) next) piece
        (subst (IsFirst pieces (place + 1) (lane_of front.shown)) was_is first))
    go false apart =
        let other = eqb-false i place apart in
        let inside : i < length nexts = let l = slice_get_within (set nexts place was) i next is in omega (arith, l, length-set nexts place was) in
        let old : slice_get nexts i ≡ Some next = slice_get-get_or nexts i None inside ∙ ap (λ o. Some o) (sym (get_or-set_other nexts place i was None other) ∙ value) in
        rest i p (omega (arith, from, other)) here next old
