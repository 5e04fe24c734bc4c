-- What `place_named` gives: a place with the name, no place where there is none, and the only one where all names differ.
use Rattle.std.proofs.Common.{◌≡◌, ◌≢◌, ℕ, ◌<◌, ◌≤◌, Bool, true, false, List, [], length, get_or, Option, Some, None, IfSome, IfNone, slice_get, sym, ap, ◌∙◌, position, arith}
use Rattle.std.specs.List.{AllPairs, Contains, position_or_len}
use Rattle.std.specs.Str.{bytes_eq}
use Rattle.std.proofs.lemmas.Bool.{false_from_ne_true, true≢false}
use Rattle.std.proofs.lemmas.Bool.Decides.{nat_tests}
use Rattle.std.proofs.lemmas.List.Quantifiers.{position-Some}
use Rattle.std.proofs.lemmas.Option.{slice_get-get_or, slice_get_within, get_or_from_slice_get}
use Rattle.std.proofs.lemmas.List.Sums.{fails_before_first, position_or_len_is}
use Rattle.std.proofs.lemmas.Slice.Eq.{bytes_eq-Decides}
use Rattle.pm_model.specs.NamedList.{place_named}

-- the first place that passes
pub position-first : {X : Type 0} (p : X → Bool) (xs : List X) (i : ℕ) (d : X) → i < length xs → p (get_or xs i d) ≡ true → ((k : ℕ) → k < i → p (get_or xs k d) ≡ false) → position p xs ≡ Some i
position-first p xs i d below passes fails =
    let is : position_or_len p xs ≡ i = position_or_len_is p xs i d (omega arith) fails (λ _. passes) in
    grind (arith, nat_tests)

-- no place passes
pub position-none : {X : Type 0} (p : X → Bool) (xs : List X) (d : X) → ((k : ℕ) → k < length xs → p (get_or xs k d) ≡ false) → position p xs ≡ None
position-none p xs d fails =
    let is : position_or_len p xs ≡ length xs = position_or_len_is p xs (length xs) d (omega arith) fails (λ h. absurd (omega arith)) in
    grind (arith, nat_tests)

-- the test of two texts that differ
pub not_same : (x y : List ℕ) → (x ≡ y → ⊥) → bytes_eq x y ≡ false
not_same x y differ = false_from_ne_true (bytes_eq x y) (λ yes. differ ((bytes_eq-Decides x y).0 yes))

-- the place of a name has it
pub place_named-found : (name : List ℕ) (names : List (List ℕ)) (r : Option ℕ) → r ≡ place_named name names → IfSome r (λ place. slice_get names place ≡ Some name)
place_named-found name names None is = tt
place_named-found name names (Some place) is =
    let (below, passes, _) = position-Some (bytes_eq name) names place [] (sym is) in
    slice_get-get_or names place [] below ∙ ap Some (sym ((bytes_eq-Decides _ _).0 passes))

-- a name without a place is none of the names
pub place_named-missing : (name : List ℕ) (names : List (List ℕ)) (r : Option ℕ) → r ≡ place_named name names → IfNone r (¬ Contains names name)
place_named-missing name names (Some place) is = tt
place_named-missing name names None is = λ (k, below, has).
    let past : length names ≤ position_or_len (bytes_eq name) names = grind (arith, nat_tests, is) in
    true≢false (sym ((bytes_eq-Decides _ _).1 (sym has)) ∙ fails_before_first (bytes_eq name) names k name (omega arith))

-- where all names differ, the place of a name is its only one
pub place_named-only : (name : List ℕ) (names : List (List ℕ)) (place : ℕ) → AllPairs (λ x y. x ≢ y) names → slice_get names place ≡ Some name → place_named name names ≡ Some place
place_named-only name names place differ there =
    position-first (bytes_eq name) names place name below ((bytes_eq-Decides _ _).1 (sym has)) (λ k lt. not_same name (get_or names k name) (λ same. differ k place name lt below (sym same ∙ sym has)))
  where
    below : place < length names
    below = slice_get_within names place name there

    has : get_or names place name ≡ name
    has = get_or_from_slice_get names place name name there
