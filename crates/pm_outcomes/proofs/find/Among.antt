-- What a list has, by its places or by `Contains`.
use Rattle.std.proofs.Common.{◌≡◌, ◌∷◌, [], ℕ, zero, suc, List, Option, Some, None, map, slice_get, refl, ap, ◌∙◌, option_map, Contains}
use Rattle.std.proofs.lemmas.Option.{get_or_from_slice_get, slice_get-get_or, slice_get-map, slice_get_within}
use Rattle.std.specs.List.{cons_option, filter_map}

module _ {A : Type 0} where
  pub some_is : (x y : A) → Some x ≡ Some y → x ≡ y
  some_is x y is = cc is

  pub has_place : (xs : List A) (x : A) → Contains xs x → (i : ℕ) × (slice_get xs i ≡ Some x)
  has_place xs x h = (h.0, slice_get-get_or xs h.0 x h.1 ∙ ap Some h.2)

  pub at_place : (xs : List A) (i : ℕ) (x : A) → slice_get xs i ≡ Some x → Contains xs x
  at_place xs i x there = (i, slice_get_within xs i x there, get_or_from_slice_get xs i x x there)

module _ {A B : Type 0} (f : A → B) where
  -- what a map has is the image of something
  pub mapped_from : (xs : List A) (i : ℕ) (y : B) → slice_get (map f xs) i ≡ Some y → (x : A) × (slice_get xs i ≡ Some x) × (f x ≡ y)
  mapped_from [] i y there = absurd (cc there)
  mapped_from (x ∷ xs) zero y there = (x, refl, some_is (f x) y there)
  mapped_from (x ∷ xs) (suc i) y there = mapped_from xs i y there

  pub mapped_to : (xs : List A) (i : ℕ) (x : A) → slice_get xs i ≡ Some x → slice_get (map f xs) i ≡ Some (f x)
  mapped_to xs i x there = slice_get-map f xs i ∙ ap (option_map f) there

module _ {A B : Type 0} (f : A → Option B) where
  -- what is told comes of something
  pub told_from : (xs : List A) (i : ℕ) (y : B) → slice_get (filter_map f xs) i ≡ Some y → (j : ℕ) × (x : A) × (slice_get xs j ≡ Some x) × (f x ≡ Some y)
  told_from [] i y there = absurd (cc there)
  told_from (x ∷ xs) i y there = by (f x) refl i there (λ k t. let r = told_from xs k y t in (suc r.0, r.1, r.2, r.3))
    where
      Goal : Type 0
      Goal = (j : ℕ) × (z : A) × (slice_get (x ∷ xs) j ≡ Some z) × (f z ≡ Some y)

      by : (o : Option B) → f x ≡ o → (i : ℕ) → slice_get (cons_option o (filter_map f xs)) i ≡ Some y → ((k : ℕ) → slice_get (filter_map f xs) k ≡ Some y → Goal) → Goal
      by None is k t further = further k t
      by (Some z) is zero t further = (0, x, refl, is ∙ t)
      by (Some z) is (suc k) t further = further k t

  -- what something gives is told
  pub told_to : (xs : List A) (j : ℕ) (x : A) (y : B) → slice_get xs j ≡ Some x → f x ≡ Some y → (i : ℕ) × (slice_get (filter_map f xs) i ≡ Some y)
  told_to [] j x y there gives = absurd (cc there)
  told_to (z ∷ xs) zero x y there gives =
      let is : f z ≡ Some y = ap f (some_is z x there) ∙ gives in
      (0, ap (λ o. slice_get (cons_option o (filter_map f xs)) 0) is)
  told_to (z ∷ xs) (suc j) x y there gives = by (f z) refl (told_to xs j x y there gives)
    where
      by : (o : Option B) → f z ≡ o → (i : ℕ) × (slice_get (filter_map f xs) i ≡ Some y) → (i : ℕ) × (slice_get (filter_map f (z ∷ xs)) i ≡ Some y)
      by None is r = (r.0, ap (λ o. slice_get (cons_option o (filter_map f xs)) r.0) is ∙ r.1)
      by (Some w) is r = (suc r.0, ap (λ o. slice_get (cons_option o (filter_map f xs)) (suc r.0)) is ∙ r.1)
