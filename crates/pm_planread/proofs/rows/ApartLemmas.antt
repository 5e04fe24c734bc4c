-- Names whose numbers differ are distinct, and of distinct names none stands earlier.
use Rattle.std.proofs.Common.{◌≡◌, ℕ, suc, ◌+◌, ◌<◌, ◌≤◌, true, false, List, [], ◌∷◌, length, map, get_or, Option, Some, None, nat_eq, nat_lt, refl, ap, sym, ◌∙◌, arith}
use Rattle.std.specs.List.{AllByRecursion, IsDistinct, list_any}
use Rattle.std.specs.List.Sorted.{IsPermutation}
use Rattle.std.specs.Str.{bytes_eq}
use Rattle.std.proofs.lemmas.Bool.{and_parts, true≢false}
use Rattle.std.proofs.lemmas.Bool.Decides.{nat_tests}
use Rattle.std.proofs.lemmas.List.Sorted.{IsPermutation-sym}
use Rattle.std.proofs.lemmas.Map.Keys.{IsDistinct-head, IsDistinct-tail, IsDistinct-IsPermutation}
use Rattle.std.proofs.lemmas.Option.{slice_get-get_or}
use Rattle.pm_model.proofs.PlaceNamed.{not_same}
use Rattle.pm_model.specs.NamedList.{place_named}
use Rattle.pm_names.proofs.TableLemmas.{place_of_only}
use Rattle.pm_names.specs.Table.{all_distinct}
use Rattle.pm_planread.specs.tree.Places.{first_fault}
use Rattle.pm_planread.specs.declared.tree.place.Place.{Place}
use Rattle.pm_planread.specs.declared.tree.place.Section.{Section}
use Rattle.pm_planread.specs.rows.Apart.{is_rising, number_of}
use Rattle.pm_planread.specs.rows.Faults.{fault_if}
use Rattle.pm_planread.specs.rows.Names.{first_repeat, is_earlier, repeated_name}

itself : (n : ℕ) → nat_eq n n ≡ true
itself n = grind (arith, nat_tests)

flips : (x y : ℕ) → nat_eq x y ≡ nat_eq y x
flips x y = grind (arith, nat_tests)

-- rising numbers are distinct
other_above : (low n x : ℕ) → n ≤ low → nat_lt low x ≡ true → nat_eq n x ≡ false
other_above low n x least up = grind (arith, nat_tests)

still_above : (low n x : ℕ) → n ≤ low → nat_lt low x ≡ true → n ≤ x
still_above low n x least up = grind (arith, nat_tests)

above : (low n : ℕ) (numbers : List ℕ) → n ≤ low → is_rising low numbers ≡ true → AllByRecursion (λ y. nat_eq n y ≡ false) numbers
above low n [] least up = tt
above low n (x ∷ numbers) least up =
    let (first, rest) = and_parts (nat_lt low x) (is_rising x numbers) up in
    (other_above low n x least first, above x n numbers (still_above low n x least first) rest)

rising : (low : ℕ) (numbers : List ℕ) → is_rising low numbers ≡ true → IsDistinct nat_eq numbers
unfolding IsDistinct
rising low [] up = tt
rising low (x ∷ numbers) up =
    let (first, rest) = and_parts (nat_lt low x) (is_rising x numbers) up in
    (above x x numbers (omega arith) rest, rising x numbers rest)

-- names with other numbers are other names
same_number : (name other : List ℕ) → name ≡ other → nat_eq (number_of name) (number_of other) ≡ true
same_number name other same = rw same (itself (number_of other))

other_name : (name other : List ℕ) → nat_eq (number_of name) (number_of other) ≡ false → bytes_eq name other ≡ false
other_name name other differ = not_same name other (λ same. true≢false (sym (same_number name other same) ∙ differ))

none_same : (name : List ℕ) (names : List (List ℕ)) → AllByRecursion (λ n. nat_eq (number_of name) n ≡ false) (map number_of names) → list_any (bytes_eq name) names ≡ false
none_same name [] differ = refl
none_same name (other ∷ names) differ = rw (other_name name other differ.0, none_same name names differ.1) refl

-- names whose numbers are distinct are distinct
pub names_apart : (names : List (List ℕ)) → IsDistinct nat_eq (map number_of names) → all_distinct names ≡ true
names_apart [] differ = refl
names_apart (name ∷ names) differ =
    let first : list_any (bytes_eq name) names ≡ false = none_same name names (IsDistinct-head nat_eq (number_of name) (map number_of names) differ) in
    let rest : all_distinct names ≡ true = names_apart names (IsDistinct-tail nat_eq (number_of name) (map number_of names) differ) in
    rw (first, rest) refl

-- numbers that rise, once they are sorted, are distinct
pub rising_apart : (numbers sorted : List ℕ) → IsPermutation numbers sorted → is_rising 0 sorted ≡ true → IsDistinct nat_eq numbers
rising_apart numbers sorted moved up = IsDistinct-IsPermutation nat_eq flips sorted numbers (IsPermutation-sym numbers sorted moved) (rising 0 sorted up)

-- nothing is wrong where nothing is wrong with any item
no_faults : {A : Type 0} (f : ℕ → A → Option Place) (i : ℕ) (xs : List A) → ((k j : ℕ) (d : A) → k < length xs → j ≡ i + k → f j (get_or xs k d) ≡ None) → first_fault f i xs ≡ None
no_faults f i [] right = refl
no_faults f i (x ∷ xs) right =
    let here : f i x ≡ None = right 0 i x (omega arith) (omega arith) in
    let after : first_fault f (i + 1) xs ≡ None = no_faults f (i + 1) xs (λ k j d below is. right (suc k) j d (omega arith) (omega arith)) in
    rw (here, after) refl

not_earlier : (j k : ℕ) → j ≡ 0 + k → is_earlier j (Some k) ≡ false
not_earlier j k is = grind (arith, nat_tests)

-- of distinct names none stands earlier
pub none_repeats : (section : Section) (names : List (List ℕ)) → all_distinct names ≡ true → first_repeat section names ≡ None
none_repeats section names distinct = no_faults (repeated_name section names) 0 names (λ k j d below is.
    let place : place_named (get_or names k d) names ≡ Some k = place_of_only names (get_or names k d) k distinct (slice_get-get_or names k d below) in
    ap (λ p. fault_if section j (is_earlier j p)) place ∙ ap (λ b. fault_if section j b) (not_earlier j k is))
