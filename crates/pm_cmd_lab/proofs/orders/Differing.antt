-- Where two observations of one command or device are listed, neighbours in the list are of one.
use Rattle.std.proofs.Common.{ℕ, zero, suc, ◌≡◌, ◌<◌, ◌≤◌, ◌+◌, ◌⊎◌, ◌||◌, ◌&&◌, ◌==◌, inl, inr, Bool, true, false, cond, List, [], ◌∷◌, ◌++◌, Some, filter, flat_map, get_or, length, nat_eq, slice_get, refl, sym, subst, ap, ◌∙◌, arith}
use Rattle.std.specs.List.{Contains}
use Rattle.std.specs.List.Sorted.{IsSorted}
use Rattle.std.specs.Ordering.{is_lt, nat_cmp, ordering_then}
use Rattle.std.specs.Cmp.{nat_cmp_is}
use Rattle.std.specs.declared.cmp.Ordering.{Ordering}
use Rattle.std.specs.declared.cmp.Ordering.TheVariants.{Less, Equal, Greater}
use Rattle.std.proofs.lemmas.Bool.{eq-eqb, eqb-true, false≢true}
use Rattle.std.proofs.lemmas.Map.Keys.{ge_from_not_lt}
use Rattle.std.proofs.lemmas.Option.{get_or_from_slice_get, slice_get_within}
use Rattle.pm_outcomes.specs.islands.Homes.{home}
use Rattle.pm_cmd_lab.specs.orders.Orders.{IslandFound, IslandsFound, outcomes_in, own_outcomes}
use Rattle.pm_lab_words.specs.declared.request.Bounds.{Bounds}
use Rattle.pm_outcomes.specs.declared.list.observations.Observation.{Observation}
use Rattle.pm_outcomes.specs.declared.list.observations.Observation.TheVariants.{End, Return}
use Rattle.pm_outcomes.specs.declared.list.observations.Outcome.{Outcome}
use Rattle.pm_outcomes.specs.list.Order.{by_observation, by_text}
use Rattle.pm_model.specs.declared.plan.Plan.{Plan}
use Rattle.pm_model.specs.Islands.{Node, the_caller, the_device}
use Rattle.pm_outcomes.specs.text.Texts.{differs, is_alike}
use Rattle.pm_cmd_lab.proofs.orders.Exactly.{IsIn, at_in, at_of, here, behind, in_at, in_one, in_split, named, of_filter, one_of, parts_of}

either : (b c : Bool) → (b || c) ≡ true → (b ≡ true) ⊎ (c ≡ true)
either true c is = inl refl
either false c is = inr is

left_or : (b c : Bool) → b ≡ true → (b || c) ≡ true
left_or true c is = refl
left_or false c is = absurd (false≢true is)

right_or : (b c : Bool) → c ≡ true → (b || c) ≡ true
right_or true c is = refl
right_or false c is = is

two : (b c : Bool) → (b && c) ≡ true → (b ≡ true) × (c ≡ true)
two true c is = (refl, is)
two false c is = absurd (false≢true is)

both_are : (b c : Bool) → b ≡ true → c ≡ true → (b && c) ≡ true
both_are true c is also = also
both_are false c is also = absurd (false≢true is)

-- what isn't less isn't so by what is compared first, nor, where that is equal, by the rest
first_not : (o p : Ordering) → is_lt (ordering_then o p) ≡ false → is_lt o ≡ false
first_not Less p is = is
first_not Equal p is = refl
first_not Greater p is = refl

rest_not : (o p : Ordering) → o ≡ Equal → is_lt (ordering_then o p) ≡ false → is_lt p ≡ false
rest_not o p same is = subst (λ (q : Ordering). is_lt (ordering_then q p) ≡ false) same is

-- one observation's command or device comes no later than the other's
abbrev IsUpTo : Observation → Observation → Type 0
IsUpTo (Return r) (Return s) = (r.caller ≤ s.caller) × (r.caller ≡ s.caller → r.command ≤ s.command)
IsUpTo (Return r) (End m) = Unit {0}
IsUpTo (End l) (Return s) = ⊥
IsUpTo (End l) (End m) = l.device.0 ≤ m.device.0

up_to : (a : Observation) (k : ℕ) (b : Observation) (l : ℕ) → is_lt (by_observation b l a k) ≡ false → IsUpTo a b
up_to (Return r) k (Return s) l is =
    let callers = first_not (nat_cmp s.caller r.caller) _ is in (
      ge_from_not_lt s.caller r.caller callers,
      λ same. ge_from_not_lt s.command r.command (first_not (nat_cmp s.command r.command) _ (rest_not (nat_cmp s.caller r.caller) _ (sym (nat_cmp_is s.caller r.caller Equal (sym same))) is)),
    )
up_to (Return r) k (End m) l is = tt
up_to (End x) k (Return s) l is = absurd (false≢true (sym is))
up_to (End x) k (End m) l is = ge_from_not_lt m.device.0 x.device.0 (first_not (nat_cmp m.device.0 x.device.0) _ is)

further : (a b c : Observation) → IsUpTo a b → IsUpTo b c → IsUpTo a c
further (Return r) (Return s) (Return t) x y =
    let le = x.0 in
    let also = y.0 in (
      omega (arith, le, also),
      λ same. let one : r.caller ≡ s.caller = omega (arith, le, also, same) in let other : s.caller ≡ t.caller = omega (arith, le, also, same) in let first = x.1 one in let last = y.1 other in omega (arith, first, last),
    )
further (Return r) (Return s) (End m) x y = tt
further (Return r) (End l) (Return t) x y = absurd y
further (Return r) (End l) (End m) x y = tt
further (End l) (Return s) c x y = absurd x
further (End l) (End m) (Return t) x y = absurd y
further (End l) (End m) (End n) x y = omega (arith, x, y)

-- what stands between two of one command or device is of it
between : (a b c : Observation) → IsUpTo a b → IsUpTo b c → is_alike a c ≡ true → is_alike a b ≡ true
between (Return r) (Return s) (Return t) x y is =
    let same = two (r.caller == t.caller) (r.command == t.command) is in
    let callers : r.caller ≡ t.caller = eqb-true r.caller t.caller same.0 in
    let commands : r.command ≡ t.command = eqb-true r.command t.command same.1 in
    let le = x.0 in
    let also = y.0 in
    let one : r.caller ≡ s.caller = omega (arith, le, also, callers) in
    let other : s.caller ≡ t.caller = omega (arith, le, also, callers) in
    let first = x.1 one in
    let last = y.1 other in
    both_are (r.caller == s.caller) (r.command == s.command) (eq-eqb r.caller s.caller one) (eq-eqb r.command s.command (omega (arith, first, last, commands)))
between (Return r) (Return s) (End m) x y is = absurd (false≢true is)
between (Return r) (End l) (Return t) x y is = absurd y
between (Return r) (End l) (End m) x y is = absurd (false≢true is)
between (End l) (Return s) c x y is = absurd x
between (End l) (End m) (Return t) x y is = absurd y
between (End l) (End m) (End n) x y is =
    let same : l.device.0 ≡ n.device.0 = eqb-true l.device.0 n.device.0 is in
    eq-eqb l.device.0 m.device.0 (omega (arith, x, y, same))

alike_back : (a b : Observation) → is_alike a b ≡ true → is_alike b a ≡ true
alike_back (Return r) (Return s) is =
    let same = two (r.caller == s.caller) (r.command == s.command) is in
    both_are (s.caller == r.caller) (s.command == r.command) (eq-eqb s.caller r.caller (sym (eqb-true r.caller s.caller same.0))) (eq-eqb s.command r.command (sym (eqb-true r.command s.command same.1)))
alike_back (Return r) (End m) is = absurd (false≢true is)
alike_back (End l) (Return s) is = absurd (false≢true is)
alike_back (End l) (End m) is = eq-eqb m.device.0 l.device.0 (sym (eqb-true l.device.0 m.device.0 is))

alike_home : (island : Node → ℕ) (a b : Observation) → is_alike a b ≡ true → home island a ≡ home island b
alike_home island (Return r) (Return s) is = let same = two (r.caller == s.caller) (r.command == s.command) is in ap (λ (c : ℕ). island (the_caller c)) (eqb-true r.caller s.caller same.0)
alike_home island (Return r) (End m) is = absurd (false≢true is)
alike_home island (End l) (Return s) is = absurd (false≢true is)
alike_home island (End l) (End m) is = ap (λ (d : ℕ). island (the_device d)) (eqb-true l.device.0 m.device.0 is)

-- each comes no later than those behind it
abbrev AreInOrder : List Outcome → Type 0
AreInOrder [] = Unit {0}
AreInOrder (x ∷ xs) = ((y : Outcome) → IsIn y xs → IsUpTo x.observation y.observation) × AreInOrder xs

abbrev EachUpTo : List Outcome → Type 0
EachUpTo xs = (i j : ℕ) (d : Outcome) → i < j → j < length xs → IsUpTo (get_or xs i d).observation (get_or xs j d).observation

each_up_to : (xs : List Outcome) → IsSorted by_text xs → (n i j : ℕ) (d : Outcome) → i + n + 1 ≡ j → j < length xs → IsUpTo (get_or xs i d).observation (get_or xs j d).observation
each_up_to xs sorted zero i j d is within =
    let a = get_or xs i d in
    let b = get_or xs (i + 1) d in
    let next : IsUpTo a.observation b.observation = up_to a.observation a.round b.observation b.round (sorted i d (omega arith) (omega (arith, is, within))) in
    let same : i + 1 ≡ j = omega (arith, is) in
    subst (λ (k : ℕ). IsUpTo a.observation (get_or xs k d).observation) same next
each_up_to xs sorted (suc n) i j d is within =
    let a = get_or xs i d in
    let b = get_or xs (i + n + 1) d in
    let c = get_or xs (i + n + 1 + 1) d in
    let before = each_up_to xs sorted n i (i + n + 1) d refl (omega (arith, is, within)) in
    let next : IsUpTo b.observation c.observation = up_to b.observation b.round c.observation c.round (sorted (i + n + 1) d (omega arith) (omega (arith, is, within))) in
    let same : i + n + 1 + 1 ≡ j = omega (arith, is) in
    subst (λ (k : ℕ). IsUpTo a.observation (get_or xs k d).observation) same (further a.observation b.observation c.observation before next)

in_order : (xs : List Outcome) → EachUpTo xs → AreInOrder xs
in_order [] each = tt
in_order (x ∷ xs) each = (
  λ y is.
      let at = at_in y xs is in
      let first : IsUpTo x.observation (get_or xs at.0 x).observation = each 0 (suc at.0) x (omega arith) (let within = slice_get_within xs at.0 y at.1 in omega (arith, within)) in
      subst (λ (z : Outcome). IsUpTo x.observation z.observation) (get_or_from_slice_get xs at.0 y x at.1) first,
  in_order xs (λ i j d lt within. each (suc i) (suc j) d (omega (arith, lt)) (omega (arith, within))),
)

sorted_in_order : (xs : List Outcome) → IsSorted by_text xs → AreInOrder xs
sorted_in_order xs sorted = in_order xs (λ i j d lt within. let n = between_them i j lt in each_up_to xs sorted n.0 i j d n.1 within)
  where
    between_them : (i j : ℕ) → i < j → (n : ℕ) × (i + n + 1 ≡ j)
    between_them zero zero lt = absurd (omega (arith, lt))
    between_them zero (suc j) lt = (j, omega arith)
    between_them (suc i) zero lt = absurd (omega (arith, lt))
    between_them (suc i) (suc j) lt = let n = between_them i j (omega (arith, lt)) in let is = n.1 in (n.0, omega (arith, is))

filter_in_order : (p : Outcome → Bool) (xs : List Outcome) → AreInOrder xs → AreInOrder (filter p xs)
filter_in_order p [] o = tt
filter_in_order p (x ∷ xs) o = go (p x) (filter_in_order p xs o.1)
  where
    go : (b : Bool) → AreInOrder (filter p xs) → AreInOrder (cond b (x ∷ filter p xs) (filter p xs))
    go true rest = (λ y is. o.0 y (of_filter p y xs is).0, rest)
    go false rest = rest

-- two different ones of one command or device
has_two : (o p : Outcome) (xs : List Outcome) → AreInOrder xs → IsIn o xs → IsIn p xs → is_alike o.observation p.observation ≡ true → ¬ (o.observation ≡ p.observation) → differs xs ≡ true
has_two o p [] order is also alike other = elim is [ ]
has_two o p (x ∷ []) order is also alike other = absurd (other (ap (λ (z : Outcome). z.observation) (sym (only o is) ∙ only p also)))
  where
    only : (z : Outcome) → IsIn z (x ∷ []) → x ≡ z
    only z has = elim (in_split z x [] has) [ inl same ↦ same | inr none ↦ elim none [ ] ]
has_two o p (x ∷ y ∷ rest) order is also alike other =
    elim (in_split o x (y ∷ rest) is) [
      | inl first ↦ elim (in_split p x (y ∷ rest) also) [
        | inl same ↦ absurd (other (ap (λ (z : Outcome). z.observation) (sym first ∙ same)))
        | inr behind_it ↦ left_or (is_alike x.observation y.observation) (differs (y ∷ rest)) (next p behind_it (subst (λ (z : Outcome). is_alike z.observation p.observation ≡ true) (sym first) alike))
      ]
      | inr behind_it ↦ elim (in_split p x (y ∷ rest) also) [
        | inl first ↦ left_or (is_alike x.observation y.observation) (differs (y ∷ rest)) (next o behind_it (subst (λ (z : Outcome). is_alike z.observation o.observation ≡ true) (sym first) (alike_back o.observation p.observation alike)))
        | inr both_behind ↦ right_or (is_alike x.observation y.observation) (differs (y ∷ rest)) (has_two o p (y ∷ rest) order.1 behind_it both_behind alike other)
      ]
    ]
  where
    next : (z : Outcome) → IsIn z (y ∷ rest) → is_alike x.observation z.observation ≡ true → is_alike x.observation y.observation ≡ true
    next z has like = elim (in_split z y rest has) [
      | inl same ↦ subst (λ (w : Outcome). is_alike x.observation w.observation ≡ true) (sym same) like
      | inr past ↦ between x.observation y.observation z.observation (order.0 y (here rest)) (order.1.0 z past) like
    ]

-- lists that are put together
more_differs : (x : Outcome) (xs : List Outcome) → differs xs ≡ true → differs (x ∷ xs) ≡ true
more_differs x [] is = absurd (false≢true is)
more_differs x (y ∷ xs) is = right_or (is_alike x.observation y.observation) (differs (y ∷ xs)) is

differs_right : (xs ys : List Outcome) → differs ys ≡ true → differs (xs ++ ys) ≡ true
differs_right [] ys is = is
differs_right (x ∷ xs) ys is = more_differs x (xs ++ ys) (differs_right xs ys is)

differs_left : (xs ys : List Outcome) → differs xs ≡ true → differs (xs ++ ys) ≡ true
differs_left [] ys is = absurd (false≢true is)
differs_left (x ∷ []) ys is = absurd (false≢true is)
differs_left (x ∷ y ∷ xs) ys is =
    elim (either (is_alike x.observation y.observation) (differs (y ∷ xs)) is) [
      | inl alike ↦ left_or (is_alike x.observation y.observation) (differs (y ∷ (xs ++ ys))) alike
      | inr more ↦ right_or (is_alike x.observation y.observation) (differs (y ∷ (xs ++ ys))) (differs_left (y ∷ xs) ys more)
    ]

differs_in : {A : Type 0} (f : A → List Outcome) (one : A) (all : List A) → IsIn one all → differs (f one) ≡ true → differs (flat_map f all) ≡ true
differs_in f one _ (here all) is = differs_left (f one) (flat_map f all) is
differs_in f one _ (behind z all has) is = differs_right (f z) (flat_map f all) (differs_in f one all has is)

pub two_differ : (bounds : Bounds) (plan : Plan) (found : IslandsFound bounds plan) (o p : Outcome) → Contains (outcomes_in found.islands) o → Contains (outcomes_in found.islands) p → is_alike o.observation p.observation ≡ true → ¬ (o.observation ≡ p.observation)
    → differs (outcomes_in found.islands) ≡ true
two_differ bounds plan found o p has also alike other =
    let island = found.numbering.island in
    let all = outcomes_in found.islands in
    let own = λ (x : IslandFound bounds plan island). own_outcomes x in
    let o_at = at_of all o has in
    let p_at = at_of all p also in
    let from = in_one own o found.islands (in_at all o_at.0 o o_at.1) in
    let from' = in_one own p found.islands (in_at all p_at.0 p p_at.1) in
    let kept = of_filter (λ (q : Outcome). nat_eq (home island q.observation) from.0.number) o from.0.found.observations from.2 in
    let kept' = of_filter (λ (q : Outcome). nat_eq (home island q.observation) from'.0.number) p from'.0.found.observations from'.2 in
    let number : from'.0.number ≡ from.0.number = sym (named (home island p.observation) from'.0.number kept'.1) ∙ sym (alike_home island o.observation p.observation alike) ∙ named (home island o.observation) from.0.number kept.1 in
    let same : from'.0 ≡ from.0 = one_of (λ (x : IslandFound bounds plan island). x.number) (parts_of plan island found.count) found.islands from'.0 from.0 found.numbers from'.1 from.1 number in
    let also_here : IsIn p (own from.0) = subst (λ (x : IslandFound bounds plan island). IsIn p (own x)) same from'.2 in
    differs_in own from.0 found.islands from.1
    (has_two o p (own from.0) (filter_in_order (λ (q : Outcome). nat_eq (home island q.observation) from.0.number) from.0.found.observations (sorted_in_order from.0.found.observations from.0.found.in_order)) from.2 also_here alike other)
