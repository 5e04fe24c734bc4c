-- What the outcomes of islands tell together is what is found of each.
use Rattle.std.proofs.Common.{ℕ, zero, suc, ◌≡◌, ◌<◌, ◌≤◌, ◌+◌, ◌⊎◌, ◌↔◌, ◌||◌, inl, inr, Bool, true, false, cond, List, [], ◌∷◌, ◌++◌, Some, None, filter, flat_map, fold, length, map, min, nat_eq, nat_le, if◌then◌else◌, refl, sym, subst, ap, ◌∙◌, arith}
use Rattle.std.specs.Prelude.{slice_get}
use Rattle.std.specs.List.{Contains, list_any, range_with_len}
use Rattle.std.proofs.lemmas.Bool.{eqb-true, false≢true}
use Rattle.std.proofs.lemmas.List.{length-map}
use Rattle.std.proofs.lemmas.List.FromFn.{length-range_with_len}
use Rattle.std.proofs.lemmas.Option.{get_or_from_slice_get, slice_get-get_or}
use Rattle.pm_outcomes.specs.islands.Homes.{has_rest, home}
use Rattle.pm_cmd_lab.specs.orders.Orders.{IsNamed, IsOfPlan, IslandFound, IslandsFound, both, outcomes_in, own_outcomes, pace_of, reach, reach_in}
use Rattle.pm_lab_words.specs.declared.request.Bounds.{Bounds}
use Rattle.pm_outcomes.specs.declared.list.observations.Left.{Left}
use Rattle.pm_outcomes.specs.declared.list.observations.Observation.{Observation}
use Rattle.pm_outcomes.specs.declared.list.observations.Observation.TheVariants.{End, Return}
use Rattle.pm_outcomes.specs.declared.list.observations.Outcome.{Outcome}
use Rattle.pm_outcomes.specs.declared.list.observations.Returned.{Returned}
use Rattle.pm_outcomes.specs.list.Shown.{observation_of}
use Rattle.pm_model.specs.declared.plan.Plan.{Plan}
use Rattle.pm_model.specs.Islands.{Node, the_device}
use Rattle.pm_explore.specs.schedule.Observations.Observation.{Ends, Returns}
use Rattle.pm_outcomes.specs.text.Reached.{reach_of}
use Rattle.pm_outcomes.specs.declared.text.reach.Reach.{Reach}
use Rattle.pm_outcomes.specs.declared.text.reach.Reach.TheVariants.{All, Limit, Within}
use Rattle.pm_outcomes.specs.find.Had.{AreExact, IsHad, IsHadWithin, IsListed, IsListedWithin}
use Rattle.pm_explore.specs.declared.search.found.Ended.{Ended}
use Rattle.pm_explore.specs.declared.search.found.Ended.TheVariants.{Rounds, Stopped, Whole}
use Rattle.pm_explore.specs.search.Seen.{IsSeen}

-- a list has a thing
pub data IsIn {A : Type 0} (x : A) : List A → Type 0 where
  here : (xs : List A) → IsIn x (x ∷ xs)
  behind : (y : A) (xs : List A) → IsIn x xs → IsIn x (y ∷ xs)

some_is : {A : Type 0} (x y : A) → Some x ≡ Some y → x ≡ y
some_is x y is = cc is

pub in_at : {A : Type 0} (xs : List A) (i : ℕ) (x : A) → slice_get xs i ≡ Some x → IsIn x xs
in_at [] i x at = absurd (cc)
in_at (y ∷ xs) zero x at = subst (λ z. IsIn x (z ∷ xs)) (sym (some_is y x at)) (here xs)
in_at (y ∷ xs) (suc i) x at = behind y xs (in_at xs i x at)

pub at_in : {A : Type 0} (x : A) (xs : List A) → IsIn x xs → (i : ℕ) × (slice_get xs i ≡ Some x)
at_in x _ (here xs) = (0, refl)
at_in x _ (behind y xs is) = let rest = at_in x xs is in (suc rest.0, rest.1)

pub at_of : {A : Type 0} (xs : List A) (x : A) → Contains xs x → (i : ℕ) × (slice_get xs i ≡ Some x)
at_of xs x has = (has.0, slice_get-get_or xs has.0 x has.1 ∙ ap (λ y. Some y) has.2)

none_in : {A : Type 0} (x : A) → IsIn x [] → ⊥
none_in x is = elim is [ ]

-- what is in lists that are put together
in_left : {A : Type 0} (x : A) (xs ys : List A) → IsIn x xs → IsIn x (xs ++ ys)
in_left x _ ys (here xs) = here (xs ++ ys)
in_left x _ ys (behind y xs is) = behind y (xs ++ ys) (in_left x xs ys is)

in_right : {A : Type 0} (x : A) (xs ys : List A) → IsIn x ys → IsIn x (xs ++ ys)
in_right x [] ys is = is
in_right x (y ∷ xs) ys is = behind y (xs ++ ys) (in_right x xs ys is)

pub in_split : {A : Type 0} (x y : A) (xs : List A) → IsIn x (y ∷ xs) → (y ≡ x) ⊎ IsIn x xs
in_split x _ _ (here xs) = inl refl
in_split x _ _ (behind y xs is) = inr is

in_either : {A : Type 0} (x : A) (xs ys : List A) → IsIn x (xs ++ ys) → IsIn x xs ⊎ IsIn x ys
in_either x [] ys is = inr is
in_either x (y ∷ xs) ys is =
    elim (in_split x y (xs ++ ys) is) [
      | inl same ↦ inl (subst (λ z. IsIn x (z ∷ xs)) (sym same) (here xs))
      | inr more ↦ elim (in_either x xs ys more) [ inl a ↦ inl (behind y xs a) | inr b ↦ inr b ]
    ]

in_all : {A B : Type 0} (f : A → List B) (x : B) (y : A) (ys : List A) → IsIn y ys → IsIn x (f y) → IsIn x (flat_map f ys)
in_all f x y _ (here ys) is = in_left x (f y) (flat_map f ys) is
in_all f x y _ (behind z ys there) is = in_right x (f z) (flat_map f ys) (in_all f x y ys there is)

pub in_one : {A B : Type 0} (f : A → List B) (x : B) (ys : List A) → IsIn x (flat_map f ys) → (y : A) × IsIn y ys × IsIn x (f y)
in_one f x [] is = absurd (none_in x is)
in_one f x (y ∷ ys) is =
    elim (in_either x (f y) (flat_map f ys) is) [
      | inl a ↦ (y, here ys, a)
      | inr b ↦ let more = in_one f x ys b in (more.0, behind y ys more.1, more.2)
    ]

in_filter : {A : Type 0} (p : A → Bool) (x : A) (xs : List A) → p x ≡ true → IsIn x xs → IsIn x (filter p xs)
in_filter p x _ passes (here xs) = rw passes (here (filter p xs))
in_filter p x _ passes (behind y xs is) = go (p y) (in_filter p x xs passes is)
  where
    go : (b : Bool) → IsIn x (filter p xs) → IsIn x (cond b (y ∷ filter p xs) (filter p xs))
    go true more = behind y (filter p xs) more
    go false more = more

pub of_filter : {A : Type 0} (p : A → Bool) (x : A) (xs : List A) → IsIn x (filter p xs) → IsIn x xs × (p x ≡ true)
of_filter p x [] is = absurd (none_in x is)
of_filter p x (y ∷ xs) is = go (p y) refl is (λ e. of_filter p x xs e)
  where
    go : (b : Bool) → p y ≡ b → IsIn x (cond b (y ∷ filter p xs) (filter p xs)) → (IsIn x (filter p xs) → IsIn x xs × (p x ≡ true)) → IsIn x (y ∷ xs) × (p x ≡ true)
    go true passes e more =
        elim (in_split x y (filter p xs) e) [
          | inl same ↦ (subst (λ z. IsIn x (z ∷ xs)) (sym same) (here xs), subst (λ z. p z ≡ true) same passes)
          | inr others ↦ (behind y xs (more others).0, (more others).1)
        ]
    go false fails e more = (behind y xs (more e).0, (more e).1)

-- observations of one kind that stand for the same are the same
same_return : (r s : Returned) → Returns r.caller r.command r.code ≡ Returns s.caller s.command s.code → r ≡ s
same_return r s is =
    let caller : r.caller ≡ s.caller = cc is in
    let command : r.command ≡ s.command = cc is in
    let code : r.code ≡ s.code = cc is in
    λ i. record { caller = caller i; command = command i; code = code i }

same_left : (l m : Left) → Ends l.device l.status l.usage l.error ≡ Ends m.device m.status m.usage m.error → l ≡ m
same_left l m is =
    let device : l.device ≡ m.device = cc is in
    let status : l.status ≡ m.status = cc is in
    let usage : l.usage ≡ m.usage = cc is in
    let error : l.error ≡ m.error = cc is in
    λ i. record { device = device i; status = status i; usage = usage i; error = error i }

same_observation : (a b : Observation) → observation_of a ≡ observation_of b → a ≡ b
same_observation (Return r) (Return s) is = ap Return (same_return r s is)
same_observation (Return r) (End m) is = cc is
same_observation (End l) (Return s) is = cc is
same_observation (End l) (End m) is = ap End (same_left l m is)

-- how many parts there are
abbrev pub parts_of : Plan → (Node → ℕ) → ℕ → ℕ
parts_of plan island count = if has_rest plan island count then count + 1 else count

-- things that are numbered by their places
number_at : {A : Type 0} (number : A → ℕ) (a n i : ℕ) (xs : List A) (x : A) → map number xs ≡ range_with_len a n → slice_get xs i ≡ Some x → number x ≡ a + i
number_at number a n i [] x are at = absurd (cc)
number_at number a zero i (y ∷ xs) x are at = absurd (cc)
number_at number a (suc n) zero (y ∷ xs) x are at =
    let first : number y ≡ a = cc are in
    let same : number x ≡ number y = ap number (sym (some_is y x at)) in
    omega (arith, first, same)
number_at number a (suc n) (suc i) (y ∷ xs) x are at =
    let rest : map number xs ≡ range_with_len (a + 1) n = cc are in
    let is = number_at number (a + 1) n i xs x rest at in
    omega (arith, is)

pub one_of : {A : Type 0} (number : A → ℕ) (n : ℕ) (xs : List A) (x y : A) → map number xs ≡ range_with_len 0 n → IsIn x xs → IsIn y xs → number x ≡ number y → x ≡ y
one_of number n xs x y are is_x is_y same =
    let x_at = at_in x xs is_x in
    let y_at = at_in y xs is_y in
    let x_is = number_at number 0 n x_at.0 xs x are x_at.1 in
    let y_is = number_at number 0 n y_at.0 xs y are y_at.1 in
    let place : x_at.0 ≡ y_at.0 = omega (arith, x_is, y_is, same) in
    some_is x y (sym x_at.1 ∙ ap (λ i. slice_get xs i) place ∙ y_at.1)

pub named : (a n : ℕ) → nat_eq a n ≡ true → a ≡ n
named a n is = eqb-true a n is

itself : (n : ℕ) → nat_eq n n ≡ true
itself n = grind arith

module _ (bounds : Bounds) (plan : Plan) (found : IslandsFound bounds plan) where
  -- an outcome of the whole list, of an observation that is at home on an island, is one of the island's
  own_of : (one : IslandFound bounds plan found.numbering.island) (m : Observation) (o : Outcome) → IsIn one found.islands → home found.numbering.island m ≡ one.number → observation_of o.observation ≡ observation_of m
      → IsIn o (outcomes_in found.islands) → IsIn o one.found.observations
  own_of one m o there at is there_o =
      let island = found.numbering.island in
      let from = in_one (λ (x : IslandFound bounds plan island). own_outcomes x) o found.islands there_o in
      let kept = of_filter (λ (p : Outcome). nat_eq (home island p.observation) from.0.number) o from.0.found.observations from.2 in
      let home_is : home island m ≡ from.0.number = ap (home island) (sym (same_observation o.observation m is)) ∙ named (home island o.observation) from.0.number kept.1 in
      let same : from.0 ≡ one = one_of (λ (x : IslandFound bounds plan island). x.number) (parts_of plan island found.count) found.islands from.0 one found.numbers from.1 there (sym home_is ∙ at) in
      subst (λ (x : IslandFound bounds plan island). IsIn o x.found.observations) same kept.0

  -- and the other way round
  of_own : (one : IslandFound bounds plan found.numbering.island) (m : Observation) (o : Outcome) → IsIn one found.islands → home found.numbering.island m ≡ one.number → observation_of o.observation ≡ observation_of m
      → IsIn o one.found.observations → IsIn o (outcomes_in found.islands)
  of_own one m o there at is there_o =
      let island = found.numbering.island in
      let home_is : home island o.observation ≡ one.number = ap (home island) (same_observation o.observation m is) ∙ at in
      let passes : nat_eq (home island o.observation) one.number ≡ true = ap (λ a. nat_eq a one.number) home_is ∙ itself one.number in
      in_all (λ (x : IslandFound bounds plan island). own_outcomes x) o one found.islands there
      (in_filter (λ (p : Outcome). nat_eq (home island p.observation) one.number) o one.found.observations passes there_o)

  listed_here : (one : IslandFound bounds plan found.numbering.island) (m : Observation) (k : ℕ) → IsIn one found.islands → home found.numbering.island m ≡ one.number
      → IsListedWithin (outcomes_in found.islands) k (observation_of m) → IsListedWithin one.found.observations k (observation_of m)
  listed_here one m k there at l =
      let o = at_in l.outcome one.found.observations (own_of one m l.outcome there at l.observation (in_at (outcomes_in found.islands) l.index l.outcome l.there)) in
      record { index = o.0; outcome = l.outcome; there = o.1; observation = l.observation; few = l.few }

  listed_there : (one : IslandFound bounds plan found.numbering.island) (m : Observation) (k : ℕ) → IsIn one found.islands → home found.numbering.island m ≡ one.number
      → IsListedWithin one.found.observations k (observation_of m) → IsListedWithin (outcomes_in found.islands) k (observation_of m)
  listed_there one m k there at l =
      let o = at_in l.outcome (outcomes_in found.islands) (of_own one m l.outcome there at l.observation (in_at one.found.observations l.index l.outcome l.there)) in
      record { index = o.0; outcome = l.outcome; there = o.1; observation = l.observation; few = l.few }

  pub within : (one : IslandFound bounds plan found.numbering.island) (m : Observation) (k : ℕ) → Contains found.islands one → home found.numbering.island m ≡ one.number → IsSeen one.found.ended one.found.rounds k
      → IsListedWithin (outcomes_in found.islands) k (observation_of m) ↔ IsHadWithin (pace_of bounds) one.part k (observation_of m)
  within one m k has at seen =
      let place = at_of found.islands one has in
      let there = in_at found.islands place.0 one place.1 in
      let exact = one.found.exact k seen in
      (λ l. exact.sound (observation_of m) (listed_here one m k there at l), λ had. listed_there one m k there at (exact.complete (observation_of m) had))

  pub of_all : (one : IslandFound bounds plan found.numbering.island) (m : Observation) → Contains found.islands one → home found.numbering.island m ≡ one.number → one.found.ended ≡ Whole
      → IsListed (outcomes_in found.islands) (observation_of m) ↔ IsHad (pace_of bounds) one.part (observation_of m)
  of_all one m has at whole = (λ l. exact.sound (observation_of m) (here_ l), λ had. there_ (exact.complete (observation_of m) had))
    where
      there : IsIn one found.islands
      there = let place = at_of found.islands one has in in_at found.islands place.0 one place.1

      exact : AreExact (pace_of bounds) one.part one.found.observations
      exact = one.found.whole whole

      here_ : IsListed (outcomes_in found.islands) (observation_of m) → IsListed one.found.observations (observation_of m)
      here_ l =
          let o = at_in l.outcome one.found.observations (own_of one m l.outcome there at l.observation (in_at (outcomes_in found.islands) l.index l.outcome l.there)) in
          record { index = o.0; outcome = l.outcome; there = o.1; observation = l.observation }

      there_ : IsListed one.found.observations (observation_of m) → IsListed (outcomes_in found.islands) (observation_of m)
      there_ l =
          let o = at_in l.outcome (outcomes_in found.islands) (of_own one m l.outcome there at l.observation (in_at one.found.observations l.index l.outcome l.there)) in
          record { index = o.0; outcome = l.outcome; there = o.1; observation = l.observation }

-- which rounds the last line names
least_both : (k j l : ℕ) → k ≤ min j l → (k ≤ j) × (k ≤ l)
least_both k j l le = (omega (arith, le), omega (arith, le))

both_named : (k : ℕ) (a b : Reach) → IsNamed k (both a b) → IsNamed k a × IsNamed k b
both_named k All b e = (tt, e)
both_named k (Within j) All e = (e, tt)
both_named k (Within j) (Within l) e = least_both k j l e
both_named k (Within j) (Limit (Some l)) e = least_both k j l e
both_named k (Within j) (Limit None) e = absurd e
both_named k (Limit (Some j)) All e = (e, tt)
both_named k (Limit None) All e = absurd e
both_named k (Limit (Some j)) (Within l) e = least_both k j l e
both_named k (Limit None) (Within l) e = absurd e
both_named k (Limit (Some j)) (Limit (Some l)) e = least_both k j l e
both_named k (Limit (Some j)) (Limit None) e = absurd e
both_named k (Limit None) (Limit l) e = absurd e

all_named : {A : Type 0} (f : A → Reach) (k : ℕ) (r : Reach) (xs : List A) → IsNamed k (fold (λ s x. both s (f x)) r xs) → IsNamed k r × ((x : A) → IsIn x xs → IsNamed k (f x))
all_named f k r [] e = (e, λ x is. absurd (none_in x is))
all_named f k r (y ∷ xs) e =
    let rest = all_named f k (both r (f y)) xs e in
    let two = both_named k r (f y) rest.0 in
    (two.0, λ x is. elim (in_split x y xs is) [ inl same ↦ subst (λ z. IsNamed k (f z)) same two.1 | inr more ↦ rest.1 x more ])

named_round : (k : ℕ) (e : Ended) (n : ℕ) → IsNamed k (reach_of e n) → (e ≡ Whole) ⊎ (k < n)
named_round k Whole n is = inl refl
named_round k Rounds zero is = absurd is
named_round k Rounds (suc n) is = inr (omega (arith, is))
named_round k (Stopped stop) zero is = absurd is
named_round k (Stopped stop) (suc n) is = inr (omega (arith, is))

pub rounds : (bounds : Bounds) (plan : Plan) (found : IslandsFound bounds plan) (one : IslandFound bounds plan found.numbering.island) (k : ℕ) → Contains found.islands one → IsNamed k (reach_in found.islands)
    → IsSeen one.found.ended one.found.rounds k
rounds bounds plan found one k has is =
    let place = at_of found.islands one has in
    let there = in_at found.islands place.0 one place.1 in
    let each = all_named (λ (x : IslandFound bounds plan found.numbering.island). reach x.found) k All found.islands is in
    named_round k one.found.ended (length one.found.rounds) (each.1 one there)

-- where an observation is at home
left_false : (b c : Bool) → (b || c) ≡ false → b ≡ false
left_false true c e = e
left_false false c e = refl

right_false : (b c : Bool) → (b || c) ≡ false → c ≡ false
right_false true c e = absurd (false≢true (sym e))
right_false false c e = e

none_passes : (p : ℕ → Bool) (a n d : ℕ) → list_any p (range_with_len a n) ≡ false → d < n → p (a + d) ≡ false
none_passes p a zero d none lt = absurd (omega (arith, lt))
none_passes p a (suc n) zero none lt = let same : a ≡ a + 0 = omega arith in subst (λ i. p i ≡ false) same (left_false (p a) _ none)
none_passes p a (suc n) (suc d) none lt =
    let same : a + 1 + d ≡ a + suc d = omega arith in
    subst (λ i. p i ≡ false) same (none_passes p (a + 1) n d (right_false (p a) _ none) (omega (arith, lt)))

not_le : (n a : ℕ) → nat_le n a ≡ false → a < n
not_le n a e = grind arith

below_many : (b : Bool) (a n : ℕ) → a < n → a < (if b then n + 1 else n)
below_many true a n lt = omega (arith, lt)
below_many false a n lt = lt

device_below : (plan : Plan) (island : Node → ℕ) (count d : ℕ) (b : Bool) → has_rest plan island count ≡ b → island (the_device d) ≤ count → d < length plan.devices → island (the_device d) < (if b then count + 1 else count)
device_below plan island count d true e le lt = omega (arith, le)
device_below plan island count d false e le lt =
    let none = right_false (nat_eq count 0) (list_any (λ x. nat_le count (island (the_device x))) (range_with_len 0 (length plan.devices))) e in
    let same : 0 + d ≡ d = omega arith in
    not_le count (island (the_device d)) (subst (λ i. nat_le count (island (the_device i)) ≡ false) same (none_passes (λ x. nat_le count (island (the_device x))) 0 (length plan.devices) d none lt))

home_below : (bounds : Bounds) (plan : Plan) (found : IslandsFound bounds plan) (m : Observation) → IsOfPlan plan m
    → home found.numbering.island m < parts_of plan found.numbering.island found.count
home_below bounds plan found (Return r) lt = below_many (has_rest plan found.numbering.island found.count) _ found.count (found.numbering.callers r.caller lt)
home_below bounds plan found (End l) lt = device_below plan found.numbering.island found.count l.device.0 (has_rest plan found.numbering.island found.count) refl (found.loose l.device.0) lt

get : {A : Type 0} (xs : List A) (i : ℕ) → i < length xs → (x : A) × (slice_get xs i ≡ Some x)
get [] i lt = absurd (omega (arith, lt))
get (x ∷ xs) zero lt = (x, refl)
get (x ∷ xs) (suc i) lt = get xs i (omega (arith, lt))

pub homes : (bounds : Bounds) (plan : Plan) (found : IslandsFound bounds plan) (m : Observation) → IsOfPlan plan m
    → (one : IslandFound bounds plan found.numbering.island) × Contains found.islands one × (home found.numbering.island m ≡ one.number)
homes bounds plan found m of_plan =
    let island = found.numbering.island in
    let n = home island m in
    let below = home_below bounds plan found m of_plan in
    let long : length found.islands ≡ parts_of plan island found.count =
    sym (length-map found.islands (λ (x : IslandFound bounds plan island). x.number)) ∙ ap (λ (l : List ℕ). length l) found.numbers ∙ length-range_with_len 0 (parts_of plan island found.count) in
    let lt : n < length found.islands = subst (λ (m : ℕ). n < m) (sym long) below in
    let it = get found.islands n lt in
    let is = number_at (λ (x : IslandFound bounds plan island). x.number) 0 (parts_of plan island found.count) n found.islands it.0 found.numbers it.1 in
    (it.0, (n, lt, get_or_from_slice_get found.islands n it.0 it.0 it.1), omega (arith, is))
