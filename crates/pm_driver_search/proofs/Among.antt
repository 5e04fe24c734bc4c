-- What is in a list that is put together of others.
use Rattle.std.proofs.Common.{ℕ, zero, suc, ◌≡◌, ◌⊎◌, inl, inr, List, [], ◌∷◌, ◌++◌, length, map, option_map, Some, slice_get, refl, sym, subst, ◌∙◌, ap}
use Rattle.std.proofs.lemmas.Option.{get_or_from_slice_get, slice_get-get_or, slice_get-map, slice_get_within}
use Rattle.std.specs.List.{Contains, flat_map}
use Rattle.pm_explore.specs.search.Exact.{IsAmong}
use Rattle.pm_explore.proofs.successors.Places.{IsIn, in_left, in_right}

pub some_is : {A : Type 0} (x y : A) → Some x ≡ Some y → x ≡ y
some_is x y is = cc is

pub in_append : {A : Type 0} (xs ys : List A) (i : ℕ) (x : A) → slice_get (xs ++ ys) i ≡ Some x → IsIn xs x ⊎ IsIn ys x
in_append [] ys i x is = inr (i, is)
in_append (y ∷ xs) ys zero x is = inl (0, is)
in_append (y ∷ xs) ys (suc i) x is = elim (in_append xs ys i x is) [ inl l ↦ inl (suc l.0, l.1) | inr r ↦ inr r ]

pub among : {A : Type 0} (xs : List A) (x : A) → IsIn xs x → IsAmong xs (length xs) x
among xs x there = record { place = there.0; below = slice_get_within xs there.0 x there.1; there = there.1 }

pub contained : {A : Type 0} (xs : List A) (x : A) → Contains xs x → IsIn xs x
contained xs x there = (there.0, slice_get-get_or xs there.0 x there.1 ∙ ap Some there.2)

pub contains : {A : Type 0} (xs : List A) (i : ℕ) (x : A) → slice_get xs i ≡ Some x → Contains xs x
contains xs i x is = (i, slice_get_within xs i x is, get_or_from_slice_get xs i x x is)

-- an element of what a map makes
pub in_map : {A B : Type 0} (f : A → B) (xs : List A) (i : ℕ) (y : B) → slice_get (map f xs) i ≡ Some y → (x : A) × (slice_get xs i ≡ Some x) × (f x ≡ y)
in_map f [] i y is = cc is
in_map f (x ∷ xs) zero y is = (x, refl, some_is (f x) y is)
in_map f (x ∷ xs) (suc i) y is = in_map f xs i y is

pub to_map : {A B : Type 0} (f : A → B) (xs : List A) (x : A) → IsIn xs x → IsIn (map f xs) (f x)
to_map f xs x there = (there.0, slice_get-map f xs there.0 ∙ ap (option_map f) there.1)

-- an element of what a flat map makes
pub in_flat : {A B : Type 0} (f : A → List B) (xs : List A) (i : ℕ) (y : B) → slice_get (flat_map f xs) i ≡ Some y → (x : A) × IsIn xs x × IsIn (f x) y
in_flat f [] i y is = cc is
in_flat f (x ∷ xs) i y is = elim (in_append (f x) (flat_map f xs) i y is) [
  | inl here ↦ (x, (0, refl), here)
  | inr there ↦ let rest = in_flat f xs there.0 y there.1 in (rest.0, (suc rest.1.0, rest.1.1), rest.2)
]

pub to_flat : {A B : Type 0} (f : A → List B) (xs : List A) (i : ℕ) (x : A) (y : B) → slice_get xs i ≡ Some x → IsIn (f x) y → IsIn (flat_map f xs) y
to_flat f [] i x y is there = cc is
to_flat f (z ∷ xs) zero x y is there =
    let same : z ≡ x = some_is z x is in
    let here : IsIn (f z) y = subst (λ a. IsIn (f a) y) (sym same) there in
    (here.0, in_left (f z) (flat_map f xs) here.0 y here.1)
to_flat f (z ∷ xs) (suc i) x y is there = in_right (f z) (flat_map f xs) y (to_flat f xs i x y is there)
