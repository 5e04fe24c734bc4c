-- Places of names, and of rows by what they are mapped to.
use Rattle.std.proofs.Common.{◌≡◌, ℕ, Bool, true, cond, nat_lt, List, [], ◌∷◌, length, map, Some, None, position, refl, arith}
use Rattle.std.specs.List.{position_or_len}
use Rattle.std.specs.Option.{option_map_or}
use Rattle.std.specs.Str.{bytes_eq}
use Rattle.std.proofs.lemmas.Bool.Decides.{nat_tests}
use Rattle.std.proofs.lemmas.List.{length-map}
use Rattle.pm_model.specs.NamedList.{place_named}

first_map : {A B : Type 0} (p : B → Bool) (g : A → B) (q : A → Bool) → ((x : A) → p (g x) ≡ q x) → (xs : List A) → position_or_len p (map g xs) ≡ position_or_len q xs
first_map p g q same [] = refl
first_map p g q same (x ∷ xs) = cc (same x, first_map p g q same xs)

-- the place among what rows are mapped to is that among the rows
pub position_map : {A B : Type 0} (p : B → Bool) (g : A → B) (q : A → Bool) → ((x : A) → p (g x) ≡ q x) → (xs : List A) → position p (map g xs) ≡ position q xs
position_map p g q same xs = cc (first_map p g q same xs, length-map xs g)

below_len : (n m : ℕ) → option_map_or (λ p. nat_lt p m) (cond (nat_lt n m) (Some n) None) true ≡ true
below_len n m = grind (arith, nat_tests)

-- a place is in the list
pub place_below : (name : List ℕ) (names : List (List ℕ)) → option_map_or (λ p. nat_lt p (length names)) (place_named name names) true ≡ true
place_below name names = below_len (position_or_len (bytes_eq name) names) (length names)
