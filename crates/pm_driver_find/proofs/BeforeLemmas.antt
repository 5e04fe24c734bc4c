-- What shows first on the way to a place is found by going back.
use Rattle.std.proofs.Common.{ℕ, ◌≡◌, ◌<◌, ◌+◌, ◌⊎◌, inl, inr, Bool, true, false, List, Option, Some, None, get_or, length, nat_lt, slice_get, if◌then◌else◌, ap, arith, refl, sym, subst, ◌∙◌}
use Rattle.std.proofs.lemmas.Bool.{cases_lt, ltb-true}
use Rattle.std.proofs.lemmas.Option.{slice_get-get_or, slice_get_within}
use Rattle.std.specs.Prelude.{IfSome}
use Rattle.pm_explore.specs.search.Trees.{LeadDown}
use Rattle.pm_driver_orders.specs.DriverSnapshots.{DriverSnapshot}
use Rattle.pm_driver_find.specs.declared.examined.ExaminedDriver.{ExaminedDriver}
use Rattle.pm_driver_find.specs.declared.firsts.DriverFinding.{DriverFinding}
use Rattle.pm_driver_find.specs.Sights.{is_seen}
use Rattle.pm_driver_find.specs.Following.{IsBefore, ShowsBefore, ShowsFirst, ShowsFirstAt, ShowsNone, ShowsNoneAt, newer_of, parent_in}
use Rattle.pm_driver_find.specs.Following.IsBefore.{parent, further}

some_is : {A : Type 0} (x y : A) → Some x ≡ Some y → x ≡ y
some_is x y is = cc is

-- one more that doesn't show
pub none_more : (E : ExaminedDriver) (s : DriverSnapshot) (told : List DriverFinding) (n : ℕ) (d : DriverFinding) → n < length told → ShowsNone E s told n → is_seen E s (get_or told n d).sight ≡ false → ShowsNone E s told (n + 1)
none_more E s told n d within before not i f lt at = elim (cases_lt i n) [
  | inl early ↦ before i f early at
  | inr late ↦
      let same : n ≡ i = omega (arith, lt, late) in
      let it : get_or told n d ≡ f = some_is (get_or told n d) f (sym (slice_get-get_or told n d within) ∙ ap (slice_get told) same ∙ at) in
      subst (λ (g : DriverFinding). is_seen E s g.sight ≡ false) it not
]

-- the next one does
pub first_that_shows : (E : ExaminedDriver) (s : DriverSnapshot) (told : List DriverFinding) (n : ℕ) (d : DriverFinding) → n < length told → ShowsNone E s told n → is_seen E s (get_or told n d).sight ≡ true → ShowsFirst E s told n
first_that_shows E s told n d within before shows = record { finding = get_or told n d; there = slice_get-get_or told n d within; shows = shows; least = before }

-- at a place
pub none_there : (E : ExaminedDriver) (snapshots : List DriverSnapshot) (told : List DriverFinding) (place : ℕ) (s : DriverSnapshot) → slice_get snapshots place ≡ Some s → ShowsNone E s told (length told) → ShowsNoneAt E snapshots told place
none_there E snapshots told place s there none t i f at is = subst (λ (z : DriverSnapshot). is_seen E z f.sight ≡ false) (some_is s t (sym there ∙ at)) (none i f (slice_get_within told i f is) is)

-- one place further back
longer : (parents : List ℕ) (at h p : ℕ) → IsBefore parents at h → parent_in parents h ≡ Some p → IsBefore parents at p
longer parents at h p (parent first) is = further h first (parent is)
longer parents at h p (further m first rest) is = further m first (longer parents m h p rest is)

-- what is before a place is its parent or before that
split_before : (parents : List ℕ) (h p q : ℕ) → parent_in parents h ≡ Some p → IsBefore parents h q → (q ≡ p) ⊎ IsBefore parents p q
split_before parents h p q is (parent first) = inl (some_is q p (sym first ∙ is))
split_before parents h p q is (further m first rest) = inr (subst (λ (x : ℕ). IsBefore parents x q) (some_is m p (sym first ∙ is)) rest)

-- nothing is before a place that follows none
none_before : {A : Type 0} (parents : List ℕ) (h q : ℕ) → parent_in parents h ≡ None → IsBefore parents h q → A
none_before parents h q none (parent first) = let k : None ≡ Some q = sym none ∙ first in cc k
none_before parents h q none (further m first rest) = let k : None ≡ Some m = sym none ∙ first in cc k

apart_some : {A : Type 0} (n : ℕ) → Some n ≡ None → A
apart_some n is = cc is

-- a finding of a number shows before a place, and earlier none does but before another
pub record ShowsTo (E : ExaminedDriver) (snapshots : List DriverSnapshot) (parents : List ℕ) (told : List DriverFinding) (at here number : ℕ) : Type 0 where
  pub place : ℕ
  pub before : IsBefore parents at place
  pub shown : ShowsFirstAt E snapshots told place number
  pub earlier : (q : ℕ) → IsBefore parents place q → IsBefore parents here q ⊎ ShowsNoneAt E snapshots told q

-- from a place back to another this is the first that shows
pub record IsFirstBack (E : ExaminedDriver) (snapshots : List DriverSnapshot) (parents : List ℕ) (told : List DriverFinding) (at here : ℕ) (first : Option ℕ) : Type 0 where
  pub way : (here ≡ at) ⊎ IsBefore parents at here
  pub some : IfSome first (ShowsTo E snapshots parents told at here)
  pub none : first ≡ None → (q : ℕ) → IsBefore parents at q → IsBefore parents here q ⊎ ShowsNoneAt E snapshots told q

pub begins_back : (E : ExaminedDriver) (snapshots : List DriverSnapshot) (parents : List ℕ) (told : List DriverFinding) (at : ℕ) → IsFirstBack E snapshots parents told at at None
begins_back E snapshots parents told at = record { way = inl refl; some = tt; none = λ is q before. inl before }

one_back : (parents : List ℕ) (at here p : ℕ) → (here ≡ at) ⊎ IsBefore parents at here → parent_in parents here ≡ Some p → IsBefore parents at p
one_back parents at here p (inl same) is = subst (λ (x : ℕ). IsBefore parents x p) same (parent is)
one_back parents at here p (inr before) is = longer parents at here p before is

pub goes_back : (E : ExaminedDriver) (snapshots : List DriverSnapshot) (parents : List ℕ) (told : List DriverFinding) (at here p : ℕ) (shown first : Option ℕ) → parent_in parents here ≡ Some p → IsFirstBack E snapshots parents told at here first
    → IfSome shown (ShowsFirstAt E snapshots told p) → (shown ≡ None → ShowsNoneAt E snapshots told p) → IsFirstBack E snapshots parents told at p (newer_of shown first)
goes_back E snapshots parents told at here p (Some number) first is back shows hides = record {
  way = inr (one_back parents at here p back.way is);
  some = record { place = p; before = one_back parents at here p back.way is; shown = shows; earlier = λ q before. inl before };
  none = λ k. apart_some number k;
}
goes_back E snapshots parents told at here p None (Some old) is back _ hides = record {
  way = inr (one_back parents at here p back.way is);
  some = record { place = back.some.place; before = back.some.before; shown = back.some.shown; earlier = λ q before. past q (back.some.earlier q before) };
  none = λ k. apart_some old k;
}
  where
    past : (q : ℕ) → IsBefore parents here q ⊎ ShowsNoneAt E snapshots told q → IsBefore parents p q ⊎ ShowsNoneAt E snapshots told q
    past q (inr none) = inr none
    past q (inl before) = elim (split_before parents here p q is before) [
      | inl same ↦ inr (subst (ShowsNoneAt E snapshots told) (sym same) (hides refl))
      | inr further_on ↦ inl further_on
    ]
goes_back E snapshots parents told at here p None None is back _ hides = record {
  way = inr (one_back parents at here p back.way is);
  some = tt;
  none = λ k q before. past q (back.none refl q before);
}
  where
    past : (q : ℕ) → IsBefore parents here q ⊎ ShowsNoneAt E snapshots told q → IsBefore parents p q ⊎ ShowsNoneAt E snapshots told q
    past q (inr none) = inr none
    past q (inl before) = elim (split_before parents here p q is before) [
      | inl same ↦ inr (subst (ShowsNoneAt E snapshots told) (sym same) (hides refl))
      | inr further_on ↦ inl further_on
    ]

pub back_some : (E : ExaminedDriver) (snapshots : List DriverSnapshot) (parents : List ℕ) (told : List DriverFinding) (at here : ℕ) (first : Option ℕ) → parent_in parents here ≡ None → IsFirstBack E snapshots parents told at here first
    → IfSome first (ShowsBefore E snapshots parents told at)
back_some E snapshots parents told at here (Some number) end back = record {
  place = back.some.place;
  before = back.some.before;
  shown = back.some.shown;
  earlier = λ q before. elim (back.some.earlier q before) [ inl more ↦ none_before parents here q end more | inr none ↦ none ];
}
back_some E snapshots parents told at here None end back = tt

pub back_none : (E : ExaminedDriver) (snapshots : List DriverSnapshot) (parents : List ℕ) (told : List DriverFinding) (at here : ℕ) (first : Option ℕ) → parent_in parents here ≡ None → IsFirstBack E snapshots parents told at here first
    → first ≡ None → (q : ℕ) → IsBefore parents at q → ShowsNoneAt E snapshots told q
back_none E snapshots parents told at here first end back is q before = elim (back.none is q before) [ inl more ↦ none_before parents here q end more | inr none ↦ none ]

taken : {A : Type 0} (b : Bool) (x y : Option A) (p : A) → (if b then x else y) ≡ Some p → y ≡ None → (b ≡ true) × (x ≡ Some p)
taken true x y p is none = (refl, is)
taken false x y p is none = let k : None ≡ Some p = sym none ∙ is in cc k

pub parent_below : (parents : List ℕ) (h p : ℕ) → LeadDown parents → parent_in parents h ≡ Some p → p < h
parent_below parents h p down is = let both = taken (nat_lt 0 h) (slice_get parents h) None p is refl in down h p (ltb-true 0 h both.0) both.1
