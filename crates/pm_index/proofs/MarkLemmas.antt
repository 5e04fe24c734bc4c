-- The words of a set and their sums, against the marks that they stand for.
use Rattle.std.proofs.Common.{◌≡◌, ◌≢◌, ◌+◌, ◌*◌, ◌/◌, ◌%◌, ◌^◌, ◌<◌, ◌≤◌, ℕ, Bool, true, false, List, ◌++◌, Option, Some, None, eqb, ltb, length, drop, get_or, set, replicate, take, sym, refl, ap, ◌∙◌, inl, inr, arith}
use Rattle.std.proofs.lemmas.Bool.{cases_eq, cases_lt, false≢true}
use Rattle.std.proofs.lemmas.Bool.Decides.{nat_tests}
use Rattle.std.proofs.lemmas.List.{get_or-replicate, get_or-set_same, get_or-set_other, get_or_past, length-replicate, length-set}
use Rattle.std.proofs.lemmas.List.FromFn.{fill_by_all, get_or-map-range_with_len, length-map-range_with_len}
use Rattle.std.proofs.lemmas.Nat.{and_le_l, le_or_r, pow_pos}
use Rattle.std.proofs.Math.Seq.{take-append_seam}
use Rattle.std.specs.Int.{bit_not, w64}
use Rattle.std.specs.Int.RustNames.{bit_and, bit_or}
use Rattle.std.specs.Prelude.{IfNone, IfSome}
use Rattle.pm_index.specs.Marks.{NoneMarked}
use Rattle.pm_index.specs.Words.{AreBits, NoBit, bit_of, marks_of, with_bit, without_bit}
use Rattle.pm_index.proofs.WordLemmas.{bit_of-zero, with_other, with_same, without_other, without_same}

pub marks_len : (bound : ℕ) (words : List ℕ) → length (marks_of bound words) ≡ bound
marks_len bound words = length-map-range_with_len (bit_of words) 0 bound

pub mark_within : (bound : ℕ) (words : List ℕ) (i : ℕ) → i < bound → get_or (marks_of bound words) i false ≡ bit_of words i
mark_within bound words i within = get_or-map-range_with_len (bit_of words) 0 bound i i false within (omega arith)

pub get_or_replicate_same : {A : Type 0} → (n i : ℕ) (a : A) → get_or (replicate n a) i a ≡ a
get_or_replicate_same n i a =
    elim (cases_lt i n) [
      | inl within ↦ get_or-replicate n i a a within
      | inr past ↦ get_or_past (replicate n a) i a (omega (arith, length-replicate n a))
    ]

pub is_zero : (n : ℕ) → eqb n 0 ≡ true → n ≡ 0
is_zero n none = grind (arith, nat_tests)

pub isnt_zero : (n : ℕ) → eqb n 0 ≡ false → n ≢ 0
isnt_zero n some = grind (arith, nat_tests)

-- what a vector holds after its slice was changed
pub after_write : (items was new : List ℕ) (len : ℕ) (change : List ℕ → List ℕ) → length items ≡ len → was ≡ items → new ≡ change was → length (change items) ≡ length items → take len (new ++ drop (length new) items) ≡ change items
after_write items was new len change whole same changed kept =
    let is : new ≡ change items = changed ∙ ap change same in
    let full : len ≡ length new = omega (arith, ap length is) in
    rw full (take-append_seam new (drop (length new) items)) ∙ is

-- a test of a number against 0
pub not_zero : (n : ℕ) → ltb 0 n ≡ false → n ≡ 0
not_zero n none = grind (arith, nat_tests)

pub is_some : (n : ℕ) → ltb 0 n ≡ true → 0 < n
is_some n some = grind (arith, nat_tests)

pub tests_some : (n : ℕ) → 0 < n → ltb 0 n ≡ true
tests_some n some = grind (arith, nat_tests)

pub tests_none : (n : ℕ) → n ≡ 0 → ltb 0 n ≡ false
tests_none n none = grind (arith, nat_tests)

-- the marks of a set after one bit is changed
pub changed_marks : (bound number : ℕ) (words next : List ℕ) (mark : Bool) → number < bound → bit_of next number ≡ mark → ((i : ℕ) → i ≢ number → bit_of next i ≡ bit_of words i) → marks_of bound next ≡ set (marks_of bound words) number mark
changed_marks bound number words next mark within same others =
    sym (fill_by_all (bit_of next) (set (marks_of bound words) number mark) bound false (length-set (marks_of bound words) number mark ∙ marks_len bound words) (λ k below.
    elim (cases_eq k number) [
      | inl at ↦ ap (λ j. get_or (set (marks_of bound words) number mark) j false) at ∙ get_or-set_same (marks_of bound words) number mark false (omega (arith, marks_len bound words)) ∙ sym same ∙ sym (ap (bit_of next) at)
      | inr other ↦ get_or-set_other (marks_of bound words) number k mark false other ∙ mark_within bound words k below ∙ sym (others k other)
    ]))

pub no_marks : (bound n : ℕ) → marks_of bound (replicate n 0) ≡ replicate bound false
no_marks bound n =
    sym (fill_by_all (bit_of (replicate n 0)) (replicate bound false) bound false (length-replicate bound false) (λ k below.
    get_or_replicate_same bound k false ∙ sym (bit_of-zero (replicate n 0) k (get_or_replicate_same n (k / 64) 0))))

pub no_bits : (bound : ℕ) → bound < 2 ^ 32 → AreBits bound (replicate (bound / 64 + 1) 0) (replicate ((bound / 64 + 1) / 64 + 1) 0)
no_bits bound few = record {
  few = few;
  words_len = length-replicate (bound / 64 + 1) 0;
  sums_len = length-replicate ((bound / 64 + 1) / 64 + 1) 0 ∙ ap (λ n. n / 64 + 1) (sym (length-replicate (bound / 64 + 1) 0));
  within = λ number past. bit_of-zero (replicate (bound / 64 + 1) 0) number (get_or_replicate_same (bound / 64 + 1) (number / 64) 0);
  summed = λ word. bit_of-zero (replicate ((bound / 64 + 1) / 64 + 1) 0) word (get_or_replicate_same ((bound / 64 + 1) / 64 + 1) (word / 64) 0) ∙ sym (tests_none (get_or (replicate (bound / 64 + 1) 0) word 0) (get_or_replicate_same (bound / 64 + 1) word 0));
}

module _ (bound : ℕ) (words sums : List ℕ) (bits : AreBits bound words sums) where
  pub fits_words : (number : ℕ) → number ≤ bound → number < 64 * length words
  fits_words number within = omega (arith, bits.words_len)

  pub fits_sums : (word : ℕ) → word ≤ length words → word < 64 * length sums
  fits_sums word within = omega (arith, bits.sums_len)

  pub few_sums : 64 * length sums < 2 ^ 63
  few_sums = omega (arith, bits.few, bits.words_len, bits.sums_len)

  pub mark_of : (i : ℕ) → get_or (marks_of bound words) i false ≡ bit_of words i
  mark_of i =
      elim (cases_lt i bound) [
        | inl within ↦ mark_within bound words i within
        | inr past ↦ get_or_past (marks_of bound words) i false (omega (arith, marks_len bound words)) ∙ sym (bits.within i past)
      ]

  pub none_marked : (low high : ℕ) → NoBit words low high → NoneMarked (marks_of bound words) low high
  none_marked low high none = λ j above below. mark_of j ∙ none j above below

  pub is_number : (i : ℕ) → bit_of words i ≡ true → i < bound
  is_number i set =
      elim (cases_lt i bound) [ inl within ↦ within | inr past ↦ absurd (false≢true (sym (bits.within i past) ∙ set)) ]

  pub put_marks : (number : ℕ) → number < bound → marks_of bound (with_bit words number) ≡ set (marks_of bound words) number true
  put_marks number within =
      let inside = fits_words number (omega arith) in
      changed_marks bound number words (with_bit words number) true within (with_same words number inside) (λ i other. with_other words number i inside other)

  pub remove_marks : (number : ℕ) → number < bound → marks_of bound (without_bit words number) ≡ set (marks_of bound words) number false
  remove_marks number within =
      let inside = fits_words number (omega arith) in
      changed_marks bound number words (without_bit words number) false within (without_same words number inside) (λ i other. without_other words number i inside other)

  -- a bit past the bound is as before, after one below it was changed
  pub still_within : (number : ℕ) (next : List ℕ) → number < bound → ((i : ℕ) → i ≢ number → bit_of next i ≡ bit_of words i) → (i : ℕ) → bound ≤ i → bit_of next i ≡ false
  still_within number next within others i past = let other : i ≢ number = omega arith in others i other ∙ bits.within i past

  -- the words after one of them is changed, and their sums
  pub changed_bits : (number word : ℕ) (next : List ℕ) → number < bound → ((i : ℕ) → i ≢ number → bit_of (set words (number / 64) word) i ≡ bit_of words i) → length next ≡ length sums → bit_of next (number / 64) ≡ ltb 0 word → ((w : ℕ) → w ≢ number / 64 → bit_of next w ≡ bit_of sums w) → AreBits bound (set words (number / 64) word) next
  changed_bits number word next within others len same apart =
      let at = number / 64 in
      let inside : at < length words = omega (arith, bits.words_len) in
      let kept = length-set words at word in
      record {
        few = bits.few;
        words_len = kept ∙ bits.words_len;
        sums_len = len ∙ bits.sums_len ∙ ap (λ n. n / 64 + 1) (sym kept);
        within = still_within number (set words at word) within others;
        summed = λ w.
            elim (cases_eq w at) [
              | inl is ↦ ap (bit_of next) is ∙ same ∙ ap (ltb 0) (sym (ap (λ x. get_or (set words at word) x 0) is ∙ get_or-set_same words at word 0 inside))
              | inr other ↦ apart w other ∙ bits.summed w ∙ ap (ltb 0) (sym (get_or-set_other words at w word 0 other))
            ];
      }

  pub put_bits : (number : ℕ) → number < bound → AreBits bound (with_bit words number) (with_bit sums (number / 64))
  put_bits number within =
      let at = number / 64 in
      let inside = fits_words number (omega arith) in
      let inside_sums : at < 64 * length sums = fits_sums at (omega (arith, bits.words_len)) in
      let word = bit_or (get_or words at 0) (2 ^ (number % 64)) in
      let some : 0 < word = omega (arith, le_or_r (get_or words at 0) (2 ^ (number % 64)), pow_pos (number % 64)) in
      changed_bits number word (with_bit sums at) within (λ i other. with_other words number i inside other) (length-set sums (at / 64) (bit_or (get_or sums (at / 64) 0) (2 ^ (at % 64)))) (with_same sums at inside_sums ∙ sym (tests_some word some)) (λ w other. with_other sums at w inside_sums other)

  pub remove_bits_empty : (number : ℕ) → number < bound → get_or (without_bit words number) (number / 64) 0 ≡ 0 → AreBits bound (without_bit words number) (without_bit sums (number / 64))
  remove_bits_empty number within none =
      let at = number / 64 in
      let inside = fits_words number (omega arith) in
      let inside_sums : at < 64 * length sums = fits_sums at (omega (arith, bits.words_len)) in
      let word = bit_and (get_or words at 0) (bit_not w64 (2 ^ (number % 64))) in
      let empty : word ≡ 0 = sym (get_or-set_same words at word 0 (omega (arith, bits.words_len))) ∙ none in
      changed_bits number word (without_bit sums at) within (λ i other. without_other words number i inside other) (length-set sums (at / 64) (bit_and (get_or sums (at / 64) 0) (bit_not w64 (2 ^ (at % 64))))) (without_same sums at inside_sums ∙ sym (tests_none word empty)) (λ w other. without_other sums at w inside_sums other)

  pub remove_bits_some : (number : ℕ) → number < bound → get_or (without_bit words number) (number / 64) 0 ≢ 0 → AreBits bound (without_bit words number) sums
  remove_bits_some number within still =
      let at = number / 64 in
      let inside = fits_words number (omega arith) in
      let had = get_or words at 0 in
      let word = bit_and had (bit_not w64 (2 ^ (number % 64))) in
      let holds : get_or (without_bit words number) at 0 ≡ word = get_or-set_same words at word 0 (omega (arith, bits.words_len)) in
      let some : 0 < word = omega arith in
      let before : 0 < had = omega (arith, and_le_l had (bit_not w64 (2 ^ (number % 64)))) in
      changed_bits number word sums within (λ i other. without_other words number i inside other) refl (bits.summed at ∙ tests_some had before ∙ sym (tests_some word some)) (λ w other. refl)

  -- no number stands in words whose sums aren't set
  pub no_numbers : (low high : ℕ) → NoBit sums low high → NoBit words (64 * low) (64 * high)
  no_numbers low high none = λ j above below.
      let empty : get_or words (j / 64) 0 ≡ 0 = not_zero (get_or words (j / 64) 0) (sym (bits.summed (j / 64)) ∙ none (j / 64) (omega arith) (omega arith)) in
      bit_of-zero words j empty

  -- none from here on where none is in this word, nor in the words after it
  pub none_from : (from : ℕ) → NoBit words from (64 * (from / 64 + 1)) → NoBit sums (from / 64 + 1) (64 * length sums) → NoneMarked (marks_of bound words) from (length (marks_of bound words))
  none_from from here after = λ j above below. mark_of j ∙
      elim (cases_lt j (64 * (from / 64 + 1))) [
        | inl beside ↦ here j above beside
        | inr later ↦ no_numbers (from / 64 + 1) (64 * length sums) after j later (omega (arith, marks_len bound words, bits.words_len, bits.sums_len))
      ]

  -- none before the first of a later word
  pub none_before : (from word i : ℕ) → NoBit words from (64 * (from / 64 + 1)) → NoBit sums (from / 64 + 1) word → NoBit words (64 * word) i → NoneMarked (marks_of bound words) from i
  none_before from word i here between there = λ j above below. mark_of j ∙
      elim (cases_lt j (64 * (from / 64 + 1))) [
        | inl beside ↦ here j above beside
        | inr later ↦ elim (cases_lt j (64 * word)) [
          | inl skipped ↦ no_numbers (from / 64 + 1) word between j later skipped
          | inr reached ↦ there j reached below
        ]
      ]

  -- a word whose sum is set is one of the words
  pub is_word : (word : ℕ) → bit_of sums word ≡ true → word < length words
  is_word word set =
      elim (cases_lt word (length words)) [
        | inl within ↦ within
        | inr past ↦ absurd (false≢true (sym (bits.summed word ∙ tests_none (get_or words word 0) (get_or_past words word 0 past)) ∙ set))
      ]

  pub found_number : (from i : ℕ) → from ≤ i → bit_of words i ≡ true → (from ≤ i) × (i < length (marks_of bound words)) × (get_or (marks_of bound words) i false ≡ true)
  found_number from i above set = (above, omega (arith, marks_len bound words, is_number i set), mark_of i ∙ set)

  -- the same of the number that a search of a later word found
  pub found_later : (from word : ℕ) (r : Option ℕ) → from / 64 + 1 ≤ word → IfSome r (λ i. (64 * word ≤ i) × (i < 64 * length words) × (bit_of words i ≡ true)) → IfSome r (λ i. (from ≤ i) × (i < length (marks_of bound words)) × (get_or (marks_of bound words) i false ≡ true))
  found_later from word None later found = tt
  found_later from word (Some i) later found = found_number from i (omega (arith, found.0)) found.2

  pub first_later : (from word : ℕ) (r : Option ℕ) → NoBit words from (64 * (from / 64 + 1)) → NoBit sums (from / 64 + 1) word → IfSome r (λ i. NoBit words (64 * word) i) → IfSome r (λ i. NoneMarked (marks_of bound words) from i)
  first_later from word None here between first = tt
  first_later from word (Some i) here between first = none_before from word i here between first

  -- a search of a word whose sum is set finds one
  pub never_missing : (word : ℕ) (r : Option ℕ) (X : Type 0) → bit_of sums word ≡ true → IfNone r (get_or words (64 * word / 64) 0 / 2 ^ (64 * word % 64) ≡ 0) → IfNone r X
  never_missing word (Some i) X set rest = tt
  never_missing word None X set rest =
      let at : 64 * word / 64 ≡ word = omega arith in
      let place : 64 * word % 64 ≡ 0 = omega arith in
      let empty : get_or words word 0 / 2 ^ 0 ≡ 0 = sym (ap (λ k. get_or words k 0 / 2 ^ (64 * word % 64)) at ∙ ap (λ k. get_or words word 0 / 2 ^ k) place) ∙ rest in
      let some : 0 < get_or words word 0 = is_some (get_or words word 0) (sym (bits.summed word) ∙ set) in
      absurd (omega arith)
