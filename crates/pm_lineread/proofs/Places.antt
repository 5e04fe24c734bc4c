-- A word that is one of a list.
use Rattle.std.proofs.Common.{◌≡◌, ℕ, ◌+◌, ◌-◌, ◌<◌, ◌≤◌, suc, Bool, true, List, [], ◌∷◌, ◌++◌, length, map, nat_eq, nat_lt, get_or, slice_index_or, slice_get, Option, Some, None, Result, Ok, Err, refl, ap, sym, ◌∙◌, inl, inr, arith}
use Rattle.std.specs.List.{list_all, position_or_len}
use Rattle.std.proofs.lemmas.Bool.{cases_eq, cases_lt, ltb-true, lt-ltb, ne_eqb, eq-eqb}
use Rattle.std.proofs.lemmas.Bool.Decides.{nat_tests}
use Rattle.std.proofs.lemmas.Grind.{common_steps}
use Rattle.std.proofs.lemmas.List.{length-map}
use Rattle.std.proofs.Math.Seq.{drop-append_seam, take-append_seam}
use Rattle.std.proofs.lemmas.Option.{slice_get-get_or, slice_get_within, get_or_from_slice_get}
use Rattle.pm_linetext.proofs.Passing.{list_all_get_or}
use Rattle.pm_linetext.proofs.WordLemmas.{word_here}
use Rattle.pm_names.proofs.TableLemmas.{place_of_only}
use Rattle.pm_names.specs.Table.{all_distinct}
use Rattle.pm_model.proofs.CommonLen.{common_len-le, le-common_len}
use Rattle.pm_model.proofs.PlaceNamed.{place_named-found}
use Rattle.pm_model.specs.NamedList.{common_len, place_named}
use Rattle.pm_lineread.specs.Pieces.{ends, item_at, itemed, place_at, placed}
use Rattle.pm_lineread.proofs.Readers.{ReadsWord, answer_parts, chain_err, chain_from, chain_ok}
use Rattle.pm_lineread.proofs.Shared.{is_clean, shared, shared-le, words_share}

-- the bytes before the first stop, and those from it on

abbrev stop_at : ℕ → List ℕ → ℕ
stop_at stop bytes = position_or_len (λ b. nat_eq b stop) bytes

record Split (stop : ℕ) (bytes : List ℕ) : Type 0 where
  word : List ℕ
  rest : List ℕ
  whole : bytes ≡ word ++ rest
  clean : is_clean stop word ≡ true
  stops : ends stop rest ≡ true

split : (stop : ℕ) (bytes : List ℕ) → Split stop bytes
split stop [] = record { word = []; rest = []; whole = refl; clean = refl; stops = refl }
split stop (b ∷ bytes) = elim (cases_eq b stop) [
  | inl same ↦ record { word = []; rest = b ∷ bytes; whole = refl; clean = refl; stops = eq-eqb b stop same }
  | inr differ ↦
      let tail = split stop bytes in
      record {
        word = b ∷ tail.word;
        rest = tail.rest;
        whole = ap (λ t. b ∷ t) tail.whole;
        clean = rw (ne_eqb b stop differ) tail.clean;
        stops = tail.stops;
      }
]

stop_at_word : (stop : ℕ) (word rest : List ℕ) → is_clean stop word ≡ true → ends stop rest ≡ true → stop_at stop (word ++ rest) ≡ length word
stop_at_word stop [] [] clean stops = refl
stop_at_word stop [] (b ∷ rest) clean stops = rw stops refl
stop_at_word stop (b ∷ word) rest clean stops = grind (arith, nat_tests, common_steps, stop_at_word stop word rest)

place_at_word : (words : List (List ℕ)) (stop : ℕ) (word rest : List ℕ) → is_clean stop word ≡ true → ends stop rest ≡ true → place_at words stop (word ++ rest) ≡ placed (place_named word words) rest (length (word ++ rest) - common_len (word ++ rest) words)
unfolding place_at
place_at_word words stop word rest clean stops =
    rw (stop_at_word stop word rest clean stops, take-append_seam word rest, drop-append_seam word rest) refl

placed_ok : (found : Option ℕ) (rest : List ℕ) (left place : ℕ) (tail : List ℕ) → placed found rest left ≡ Ok (place, tail) → (found ≡ Some place) × (rest ≡ tail)
placed_ok None rest left place tail h = (cc)
placed_ok (Some p) rest left place tail h = let (places, rests) = answer_parts p place rest tail (placed (Some p) rest left) refl h in (ap Some places, rests)

placed_err : (found : Option ℕ) (rest : List ℕ) (left n : ℕ) → placed found rest left ≡ Err n → (found ≡ None) × (left ≡ n)
placed_err None rest left n h = (refl, cc)
placed_err (Some p) rest left n h = (cc)

pub common_len_fits : (bytes : List ℕ) (words : List (List ℕ)) → common_len bytes words ≤ length bytes
common_len_fits bytes words = common_len-le bytes words (length bytes) (λ place within. shared-le bytes (slice_index_or words place []))

-- some word has the most in common
common_len_there : (bytes : List ℕ) (words : List (List ℕ)) → 0 < length words → (place : ℕ) × (place < length words) × (common_len bytes words ≤ shared bytes (slice_index_or words place []))
common_len_there bytes [] some = absurd (omega arith)
common_len_there bytes (word ∷ []) some = (0, omega arith, omega arith)
common_len_there bytes (word ∷ next ∷ words) some = elim (cases_lt (shared bytes word) (common_len bytes (next ∷ words))) [
  | inl less ↦ let (place, within, most) = common_len_there bytes (next ∷ words) (omega arith) in (suc place, omega (arith, within), omega (arith, less, most))
  | inr more ↦ (0, omega arith, omega (arith, more))
]

module _ (words : List (List ℕ)) (stop : ℕ) (distinct : all_distinct words ≡ true) (all_clean : list_all (is_clean stop) words ≡ true) (nonempty : 0 < length words) where
  abbrev word_of : ℕ → List ℕ
  word_of place = slice_index_or words place []

  abbrev IsPlace : ℕ → Bool
  IsPlace place = nat_lt place (length words)

  word_is_clean : (place : ℕ) → IsPlace place ≡ true → is_clean stop (word_of place) ≡ true
  word_is_clean place is = list_all_get_or (is_clean stop) words place [] all_clean (ltb-true place (length words) is)

  place_of_its_word : (place : ℕ) → IsPlace place ≡ true → place_named (word_of place) words ≡ Some place
  place_of_its_word place is = place_of_only words (word_of place) place distinct (slice_get-get_or words place [] (ltb-true place (length words) is))

  place_sound : (bytes : List ℕ) (place : ℕ) (rest : List ℕ) → place_at words stop bytes ≡ Ok (place, rest) → (IsPlace place ≡ true) × (bytes ≡ word_of place ++ rest) × (ends stop rest ≡ true)
  place_sound bytes place rest h =
      let parts = split stop bytes in
      let answer : placed (place_named parts.word words) parts.rest (length (parts.word ++ parts.rest) - common_len (parts.word ++ parts.rest) words) ≡ Ok (place, rest) =
      sym (place_at_word words stop parts.word parts.rest parts.clean parts.stops) ∙ (ap (place_at words stop) (sym parts.whole) ∙ h) in
      let (found, tail) = placed_ok (place_named parts.word words) parts.rest _ place rest answer in
      let there : slice_get words place ≡ Some parts.word = stands parts.word (place_named parts.word words) refl place found in
      let word : word_of place ≡ parts.word = get_or_from_slice_get words place parts.word [] there in
      (lt-ltb place (length words) (slice_get_within words place parts.word there), parts.whole ∙ rw (word, tail) refl, ap (ends stop) (sym tail) ∙ parts.stops)
    where
      stands : (word : List ℕ) (r : Option ℕ) → r ≡ place_named word words → (place : ℕ) → r ≡ Some place → slice_get words place ≡ Some word
      stands word None is place some = (cc)
      stands word (Some p) is place some = let same : p ≡ place = cc in ap (slice_get words) (sym same) ∙ place_named-found word words (Some p) is

  place_complete : (place : ℕ) (rest : List ℕ) → IsPlace place ≡ true → ends stop rest ≡ true → place_at words stop (word_of place ++ rest) ≡ Ok (place, rest)
  place_complete place rest is stops =
      place_at_word words stop (word_of place) rest (word_is_clean place is) stops ∙ rw (place_of_its_word place is) refl

  -- where it fails, the word before the stop is none of the words
  record NoPlace (bytes : List ℕ) (left : ℕ) : Type 0 where
    parts : Split stop bytes
    missing : place_named parts.word words ≡ None
    count : left ≡ length bytes - common_len bytes words

  no_place : (bytes : List ℕ) (left : ℕ) → place_at words stop bytes ≡ Err left → NoPlace bytes left
  no_place bytes left h =
      let parts = split stop bytes in
      let answer : placed (place_named parts.word words) parts.rest (length (parts.word ++ parts.rest) - common_len (parts.word ++ parts.rest) words) ≡ Err left =
      sym (place_at_word words stop parts.word parts.rest parts.clean parts.stops) ∙ (ap (place_at words stop) (sym parts.whole) ∙ h) in
      let (none, count) = placed_err (place_named parts.word words) parts.rest _ left answer in
      record { parts = parts; missing = none; count = sym count ∙ ap (λ t. length t - common_len t words) (sym parts.whole) }

  place_most : (bytes : List ℕ) (left : ℕ) → place_at words stop bytes ≡ Err left → (place : ℕ) (rest : List ℕ) → IsPlace place ≡ true → ends stop rest ≡ true → shared bytes (word_of place ++ rest) + left ≤ length bytes
  place_most bytes left h place rest is stops =
      let none = no_place bytes left h in
      let most : shared bytes (word_of place) ≤ common_len bytes words = le-common_len bytes words place (ltb-true place (length words) is) in
      elim (words_share stop none.parts.word (word_of place) none.parts.rest rest none.parts.clean (word_is_clean place is) none.parts.stops stops) [
        | inl same ↦
            let found : place_named none.parts.word words ≡ Some place = ap (λ w. place_named w words) same ∙ place_of_its_word place is in
            let missing = none.missing in
            absurd (cc (found, missing))
        | inr less ↦
            let here : shared bytes (word_of place ++ rest) ≤ shared bytes (word_of place) = rw none.parts.whole less in
            omega (arith, here, most, none.count, common_len_fits bytes words)
      ]

  place_reached : (bytes : List ℕ) (left : ℕ) → place_at words stop bytes ≡ Err left → (place : ℕ) × (IsPlace place ≡ true) × (length bytes ≤ shared bytes (word_of place) + left)
  place_reached bytes left h =
      let none = no_place bytes left h in
      let (place, within, most) = common_len_there bytes words nonempty in
      (place, lt-ltb place (length words) within, omega (arith, most, none.count))

  pub place_reads : ReadsWord stop (place_at words stop) IsPlace word_of
  place_reads = record {
    clean = word_is_clean;
    sound = place_sound;
    complete = place_complete;
    most = place_most;
    reached = place_reached;
    some = (0, lt-ltb 0 (length words) nonempty);
  }

-- where there is no word, it always fails
pub no_word : (stop : ℕ) (bytes : List ℕ) → place_at [] stop bytes ≡ Err (length bytes)
unfolding place_at
no_word stop bytes = ap Err (omega arith)

-- a word that stands for an item

itemed_ok : {X : Type 0} (o : Option X) (rest : List ℕ) (x : X) (tail : List ℕ) → itemed o rest ≡ Ok (x, tail) → (o ≡ Some x) × (rest ≡ tail)
itemed_ok None rest x tail h = (cc)
itemed_ok (Some y) rest x tail h = let (items, rests) = answer_parts y x rest tail (itemed (Some y) rest) refl h in (ap Some items, rests)

itemed_err : {X : Type 0} (o : Option X) (rest : List ℕ) (left : ℕ) → itemed o rest ≡ Err left → o ≡ None
itemed_err None rest left h = refl
itemed_err (Some y) rest left h = (cc)

module _ {X : Type 0} (words : List (List ℕ)) (items : List X) (word : X → List ℕ) (stop : ℕ) (spelled : map word items ≡ words) (every : (x : X) → (place : ℕ) × (slice_get items place ≡ Some x)) (some : X) (distinct : all_distinct words ≡ true) (all_clean : list_all (is_clean stop) words ≡ true) where
  its_word : (place : ℕ) (x : X) → slice_get items place ≡ Some x → (nat_lt place (length words) ≡ true) × (slice_index_or words place [] ≡ word x)
  its_word place x there =
      let here = word_here word items words spelled place x there in
      (lt-ltb place (length words) (slice_get_within words place (word x) here), get_or_from_slice_get words place (word x) [] here)

  nonempty : 0 < length words
  nonempty = let (place, there) = every some in omega (arith, ltb-true place (length words) (its_word place some there).0)

  places : ReadsWord stop (place_at words stop) (λ place. nat_lt place (length words)) (λ place. slice_index_or words place [])
  places = place_reads words stop distinct all_clean nonempty

  item_there : (place : ℕ) → nat_lt place (length words) ≡ true → (x : X) × (slice_get items place ≡ Some x)
  item_there place is =
      let sizes : length items ≡ length words = sym (length-map items word) ∙ ap length spelled in
      (get_or items place some, slice_get-get_or items place some (omega (arith, sizes, ltb-true place (length words) is)))

  abbrev chosen : ℕ × List ℕ → Result (X × List ℕ) ℕ
  chosen found = itemed (slice_get items found.0) found.1

  item_err : (bytes : List ℕ) (left : ℕ) → item_at words items stop bytes ≡ Err left → place_at words stop bytes ≡ Err left
  unfolding item_at
  item_err bytes left h = elim (chain_err (place_at words stop bytes) chosen left h) [
    | inl none ↦ none
    | inr found ↦
        let (is, _, _) = places.sound bytes found.0.0 found.0.1 found.1 in
        let (x, there) = item_there found.0.0 is in
        let none = itemed_err (slice_get items found.0.0) found.0.1 left found.2 in
        absurd (cc (there, none))
  ]

  item_sound : (bytes : List ℕ) (x : X) (rest : List ℕ) → item_at words items stop bytes ≡ Ok (x, rest) → (true ≡ true) × (bytes ≡ word x ++ rest) × (ends stop rest ≡ true)
  unfolding item_at
  item_sound bytes x rest h =
      let (found, here, next) = chain_ok (place_at words stop bytes) chosen (x, rest) h in
      let (there, tail) = itemed_ok (slice_get items found.0) found.1 x rest next in
      let (is, whole, stops) = places.sound bytes found.0 found.1 here in
      let (_, its) = its_word found.0 x there in
      (refl, whole ∙ rw (its, tail) refl, ap (ends stop) (sym tail) ∙ stops)

  item_complete : (x : X) (rest : List ℕ) → true ≡ true → ends stop rest ≡ true → item_at words items stop (word x ++ rest) ≡ Ok (x, rest)
  unfolding item_at
  item_complete x rest _ stops =
      let (place, there) = every x in
      let (is, its) = its_word place x there in
      let here : place_at words stop (word x ++ rest) ≡ Ok (place, rest) = ap (λ w. place_at words stop (w ++ rest)) (sym its) ∙ places.complete place rest is stops in
      chain_from (place_at words stop (word x ++ rest)) chosen (place, rest) (x, rest) here (rw there refl)

  pub item_reads : ReadsWord stop (item_at words items stop) (λ _. true) word
  item_reads = record {
    clean = λ x _. let (place, there) = every x in let (is, its) = its_word place x there in ap (is_clean stop) (sym its) ∙ places.clean place is;
    sound = item_sound;
    complete = item_complete;
    most = λ bytes left h x rest _ stops.
        let (place, there) = every x in
        let (is, its) = its_word place x there in
        rw (← its) (places.most bytes left (item_err bytes left h) place rest is stops);
    reached = λ bytes left h.
        let (place, is, near) = places.reached bytes left (item_err bytes left h) in
        let (x, there) = item_there place is in
        (x, refl, omega (arith, near, ap (shared bytes) (its_word place x there).1));
    some = (some, refl);
  }
