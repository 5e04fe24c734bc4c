-- The place of a word in a list, and the word at a place.
use Rattle.std.proofs.Common.{◌≡◌, ℕ, ◌<◌, zero, suc, Bool, true, false, not, List, [], ◌∷◌, map, length, get_or, slice_get, Option, option_map, Some, None, IfSome, IsNone, ◌↔◌, Contains, position, bytes_eq, refl, ap, sym, ◌∙◌, arith}
use Rattle.std.specs.List.{position_or_len, list_any}
use Rattle.std.proofs.lemmas.Grind.{common_steps}
use Rattle.std.proofs.lemmas.Bool.{and_parts, not-true}
use Rattle.std.proofs.lemmas.Slice.Eq.{bytes_eq-Decides}
use Rattle.std.proofs.lemmas.List.{length-map}
use Rattle.std.proofs.lemmas.List.Folds.{list_any_at}
use Rattle.std.proofs.lemmas.List.Quantifiers.{position-Some}
use Rattle.std.proofs.lemmas.List.Sums.{fails_before_first}
use Rattle.std.proofs.lemmas.Option.{slice_get-map, slice_get-get_or, slice_get_within, get_or_from_slice_get}
use Rattle.pm_names.specs.Table.{place_of, all_distinct}

position_or_len-map : {X Y : Type 0} (p : Y → Bool) (f : X → Y) (xs : List X) → position_or_len (λ x. p (f x)) xs ≡ position_or_len p (map f xs)
position_or_len-map p f [] = refl
position_or_len-map p f (x ∷ xs) = rw (position_or_len-map p f xs) refl

-- a test of what f gives passes where the test passes in the mapped list
pub position-map : {X Y : Type 0} (p : Y → Bool) (f : X → Y) (xs : List X) → position (λ x. p (f x)) xs ≡ position p (map f xs)
position-map p f xs = rw (position_or_len-map p f xs, length-map xs f) refl

-- the word stands at its place
place_of_found : (words : List (List ℕ)) (word : List ℕ) (place : ℕ) → place_of words word ≡ Some place → slice_get words place ≡ Some word
place_of_found words word place found =
    let first = position-Some (bytes_eq word) words place word found in
    slice_get-get_or words place word first.0 ∙ ap Some (sym ((bytes_eq-Decides word (get_or words place word)).0 first.1))

-- a word with no place stands nowhere
place_of_missing : (words : List (List ℕ)) (word : List ℕ) → place_of words word ≡ None → ¬ Contains words word
place_of_missing words word missing (place, within, here) =
    grind (arith, fails_before_first (bytes_eq word) words place word, bytes_eq-Decides word (get_or words place word))

-- the first word has place 0
place_of_first : (words : List (List ℕ)) (first word : List ℕ) → first ≡ word → place_of (first ∷ words) word ≡ Some 0
place_of_first words first word same = grind (arith, bytes_eq-Decides word first)

-- a word that isn't the first has one place more than among the rest
place_of_later : (words : List (List ℕ)) (first word : List ℕ) (place : ℕ) → bytes_eq word first ≡ false → place_of words word ≡ Some place → place_of (first ∷ words) word ≡ Some (suc place)
place_of_later words first word place other found = grind (arith, common_steps)

-- a word of the rest isn't the first, where the rest doesn't have the first
other_than_first : (words : List (List ℕ)) (first word : List ℕ) (place : ℕ) → list_any (bytes_eq first) words ≡ false → slice_get words place ≡ Some word → bytes_eq word first ≡ false
other_than_first words first word place absent here =
    grind (arith, bytes_eq-Decides word first, bytes_eq-Decides first first, list_any_at (bytes_eq first) words place word, slice_get_within words place word here, get_or_from_slice_get words place word word here)

-- where no two words are alike, a place at which the word stands is its place
pub place_of_only : (words : List (List ℕ)) (word : List ℕ) (place : ℕ) → all_distinct words ≡ true → slice_get words place ≡ Some word → place_of words word ≡ Some place
place_of_only [] word place distinct here = (cc)
place_of_only (first ∷ words) word zero distinct here = place_of_first words first word (cc)
place_of_only (first ∷ words) word (suc place) distinct here =
    let parts = and_parts (not (list_any (bytes_eq first) words)) (all_distinct words) distinct in
    let other = other_than_first words first word place (not-true _ parts.0) here in
    place_of_later words first word place other (place_of_only words word place parts.1 here)

-- the same for a word that is read at the place, of a list that is seen through `now`
pub place_of_read : {X : Type 0} (now : X → List ℕ) (xs : List X) (place : ℕ) (default : X) → all_distinct (map now xs) ≡ true → place < length xs → place_of (map now xs) (now (get_or xs place default)) ≡ Some place
place_of_read now xs place default distinct within =
    let here = slice_get-map now xs place ∙ ap (option_map now) (slice_get-get_or xs place default within) in
    place_of_only (map now xs) (now (get_or xs place default)) place distinct here

-- what an answer says that is the place of the word: where it stands
pub answer_found : (words : List (List ℕ)) (word : List ℕ) (answer : Option ℕ) → answer ≡ place_of words word → IfSome answer (λ place. slice_get words place ≡ Some word)
answer_found words word None is = tt
answer_found words word (Some place) is = place_of_found words word place (sym is)

-- and, where it is `None`, that the word is none of them
pub answer_missing : (words : List (List ℕ)) (word : List ℕ) (answer : Option ℕ) → answer ≡ place_of words word → IsNone answer ↔ (¬ Contains words word)
answer_missing words word None is = (λ _. place_of_missing words word (sym is), λ _. refl)
answer_missing words word (Some place) is =
    let here = place_of_found words word place (sym is) in
    let stands : Contains words word = (place, slice_get_within words place word here, get_or_from_slice_get words place word word here) in
    (λ none. cc, λ absent. absurd (absent stands))
