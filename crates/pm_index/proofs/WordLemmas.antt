-- One bit of a list of words, and a list of words with one bit changed.
use Rattle.std.proofs.Common.{◌≡◌, ◌≢◌, ◌+◌, ◌-◌, ◌*◌, ◌/◌, ◌%◌, ◌^◌, ◌<◌, ◌≤◌, ℕ, true, false, List, Option, Some, None, eqb, length, get_or, set, sym, refl, ap, ◌∙◌, subst, inl, inr, arith}
use Rattle.std.proofs.lemmas.Bool.{cases_eq, cases_lt}
use Rattle.std.proofs.lemmas.List.{get_or-set_same, get_or-set_other}
use Rattle.std.proofs.lemmas.Nat.{div-mul-add, mod-mul-add, one_shl, shr-shr, shr_le}
use Rattle.std.proofs.lemmas.Nat.Bits.{bit_at_above, bit_at_clear_other, bit_at_clear_same, bit_at_set_other, bit_at_set_same, bit_at-trailing_zeros, bit_at-zero}
use Rattle.std.specs.Int.{bit_at, bit_not, trailing_zeros, w64}
use Rattle.std.specs.Int.RustNames.{bit_and, bit_or}
use Rattle.std.specs.Prelude.{IfNone}
use Rattle.pm_index.specs.Words.{NoBit, bit_of, with_bit, without_bit}

-- a bit of a word that is shifted down
pub bit_at-shr : (word from j : ℕ) → from ≤ j → bit_at (word / 2 ^ from) (j - from) ≡ bit_at word j
bit_at-shr word from j above =
    let back : from + (j - from) ≡ j = omega arith in
    ap (λ x. x % 2) (shr-shr word from (j - from) ∙ ap (λ k. word / 2 ^ k) back)

-- no bit from here on is set where nothing is left of the word
pub none_set : (word from : ℕ) → word / 2 ^ from ≡ 0 → (j : ℕ) → from ≤ j → bit_at word j ≡ 0
none_set word from none j above = sym (bit_at-shr word from j above) ∙ ap (λ x. bit_at x (j - from)) none ∙ bit_at-zero (j - from)

-- the first bit of a word from here on that is set
pub record IsFirstBit (word from i : ℕ) : Type 0 where
  pub above : from ≤ i
  pub inside : i < 64
  pub is_set : bit_at word i ≡ 1
  pub first : (j : ℕ) → from ≤ j → j < i → bit_at word j ≡ 0

pub first_set : (word from : ℕ) → word < 2 ^ 64 → 0 < word / 2 ^ from → IsFirstBit word from (from + trailing_zeros w64 (word / 2 ^ from))
first_set word from fits some =
    let zeros = trailing_zeros w64 (word / 2 ^ from) in
    let lowest = bit_at-trailing_zeros w64 (word / 2 ^ from) some (omega (arith, shr_le word from)) in
    let back : from + zeros - from ≡ zeros = omega arith in
    let set : bit_at word (from + zeros) ≡ 1 = sym (bit_at-shr word from (from + zeros) (omega arith)) ∙ ap (bit_at (word / 2 ^ from)) back ∙ lowest.1 in
    record {
      above = omega arith;
      inside = elim (cases_lt (from + zeros) 64) [ inl inside ↦ inside | inr past ↦ absurd (omega (arith, set, bit_at_above word 64 (from + zeros) fits past)) ];
      is_set = set;
      first = λ j above below. sym (bit_at-shr word from j above) ∙ lowest.2 (j - from) (omega arith);
    }

-- one bit of a word set or cleared
pub or_same : (word k : ℕ) → k < 64 → bit_at (bit_or word (2 ^ k)) k ≡ 1
or_same word k within = subst (λ (m : ℕ). bit_at (bit_or word m) k ≡ 1) (one_shl k 64 within) (bit_at_set_same w64 word k within)

pub or_other : (word k i : ℕ) → k < 64 → i ≢ k → bit_at (bit_or word (2 ^ k)) i ≡ bit_at word i
or_other word k i within other = subst (λ (m : ℕ). bit_at (bit_or word m) i ≡ bit_at word i) (one_shl k 64 within) (bit_at_set_other w64 word k within i other)

pub clear_same : (word k : ℕ) → k < 64 → bit_at (bit_and word (bit_not w64 (2 ^ k))) k ≡ 0
clear_same word k within = subst (λ (m : ℕ). bit_at (bit_and word (bit_not w64 m)) k ≡ 0) (one_shl k 64 within) (bit_at_clear_same w64 word k within)

pub clear_other : (word k i : ℕ) → k < 64 → i < 64 → i ≢ k → bit_at (bit_and word (bit_not w64 (2 ^ k))) i ≡ bit_at word i
clear_other word k i within inside other = subst (λ (m : ℕ). bit_at (bit_and word (bit_not w64 m)) i ≡ bit_at word i) (one_shl k 64 within) (bit_at_clear_other w64 word k within i inside other)

-- a bit by its word
pub bit_of-at : (words : List ℕ) (bit : ℕ) → bit_of words bit ≡ eqb (bit_at (get_or words (bit / 64) 0) (bit % 64)) 1
unfolding bit_of
bit_of-at words bit = refl

pub bit_of-place : (words : List ℕ) (at bit : ℕ) → bit < 64 → bit_of words (at * 64 + bit) ≡ eqb (bit_at (get_or words at 0) bit) 1
bit_of-place words at bit inside =
    bit_of-at words (at * 64 + bit)
    ∙ ap (λ x. eqb (bit_at (get_or words x 0) ((at * 64 + bit) % 64)) 1) (div-mul-add at 64 bit inside)
    ∙ ap (λ x. eqb (bit_at (get_or words at 0) x) 1) (mod-mul-add at 64 bit inside)

-- a bit whose word has it clear
pub bit_of-clear : (words : List ℕ) (at bit : ℕ) → bit / 64 ≡ at → bit_at (get_or words at 0) (bit % 64) ≡ 0 → bit_of words bit ≡ false
bit_of-clear words at bit same clear =
    bit_of-at words bit ∙ ap (λ x. eqb (bit_at (get_or words x 0) (bit % 64)) 1) same ∙ ap (λ x. eqb x 1) clear

-- no bit of a word that is 0 is set
pub bit_of-zero : (words : List ℕ) (bit : ℕ) → get_or words (bit / 64) 0 ≡ 0 → bit_of words bit ≡ false
bit_of-zero words bit none =
    bit_of-at words bit ∙ ap (λ x. eqb (bit_at x (bit % 64)) 1) none ∙ ap (λ x. eqb x 1) (bit_at-zero (bit % 64))

-- a list of words in which one is put anew
pub bit_of-put : (words : List ℕ) (at word bit : ℕ) → at < length words → bit / 64 ≡ at → bit_of (set words at word) bit ≡ eqb (bit_at word (bit % 64)) 1
bit_of-put words at word bit within same =
    bit_of-at (set words at word) bit ∙ ap (λ x. eqb (bit_at (get_or (set words at word) x 0) (bit % 64)) 1) same ∙ ap (λ x. eqb (bit_at x (bit % 64)) 1) (get_or-set_same words at word 0 within)

pub bit_of-kept : (words : List ℕ) (at word bit : ℕ) → bit / 64 ≢ at → bit_of (set words at word) bit ≡ bit_of words bit
bit_of-kept words at word bit other =
    bit_of-at (set words at word) bit ∙ ap (λ x. eqb (bit_at x (bit % 64)) 1) (get_or-set_other words at (bit / 64) word 0 other) ∙ sym (bit_of-at words bit)

-- the same word and the same place in it are the same bit
pub same_bit : (a b : ℕ) → a / 64 ≡ b / 64 → a % 64 ≡ b % 64 → a ≡ b
same_bit a b word place = omega arith

pub with_same : (words : List ℕ) (bit : ℕ) → bit < 64 * length words → bit_of (with_bit words bit) bit ≡ true
with_same words bit within =
    bit_of-put words (bit / 64) (bit_or (get_or words (bit / 64) 0) (2 ^ (bit % 64))) bit (omega arith) refl ∙ ap (λ x. eqb x 1) (or_same (get_or words (bit / 64) 0) (bit % 64) (omega arith))

pub with_other : (words : List ℕ) (bit i : ℕ) → bit < 64 * length words → i ≢ bit → bit_of (with_bit words bit) i ≡ bit_of words i
with_other words bit i within other =
    elim (cases_eq (i / 64) (bit / 64)) [
      | inr apart ↦ bit_of-kept words (bit / 64) (bit_or (get_or words (bit / 64) 0) (2 ^ (bit % 64))) i apart
      | inl same ↦
          let place : i % 64 ≢ bit % 64 = λ equal. other (same_bit i bit same equal) in
          bit_of-put words (bit / 64) (bit_or (get_or words (bit / 64) 0) (2 ^ (bit % 64))) i (omega arith) same
          ∙ ap (λ x. eqb x 1) (or_other (get_or words (bit / 64) 0) (bit % 64) (i % 64) (omega arith) place)
          ∙ ap (λ x. eqb (bit_at (get_or words x 0) (i % 64)) 1) (sym same)
          ∙ sym (bit_of-at words i)
    ]

pub without_same : (words : List ℕ) (bit : ℕ) → bit < 64 * length words → bit_of (without_bit words bit) bit ≡ false
without_same words bit within =
    bit_of-put words (bit / 64) (bit_and (get_or words (bit / 64) 0) (bit_not w64 (2 ^ (bit % 64)))) bit (omega arith) refl ∙ ap (λ x. eqb x 1) (clear_same (get_or words (bit / 64) 0) (bit % 64) (omega arith))

pub without_other : (words : List ℕ) (bit i : ℕ) → bit < 64 * length words → i ≢ bit → bit_of (without_bit words bit) i ≡ bit_of words i
without_other words bit i within other =
    elim (cases_eq (i / 64) (bit / 64)) [
      | inr apart ↦ bit_of-kept words (bit / 64) (bit_and (get_or words (bit / 64) 0) (bit_not w64 (2 ^ (bit % 64)))) i apart
      | inl same ↦
          let place : i % 64 ≢ bit % 64 = λ equal. other (same_bit i bit same equal) in
          bit_of-put words (bit / 64) (bit_and (get_or words (bit / 64) 0) (bit_not w64 (2 ^ (bit % 64)))) i (omega arith) same
          ∙ ap (λ x. eqb x 1) (clear_other (get_or words (bit / 64) 0) (bit % 64) (i % 64) (omega arith) (omega arith) place)
          ∙ ap (λ x. eqb (bit_at (get_or words x 0) (i % 64)) 1) (sym same)
          ∙ sym (bit_of-at words i)
    ]

-- what holds at None, holds if it is None
pub at_none : (X : Type 0) (r : Option ℕ) → X → IfNone r X
at_none X None x = x
at_none X (Some _) x = tt

-- the first bit in the word of another, as a bit of all words
pub beside_found : (words : List ℕ) (from bit : ℕ) → from < 64 * length words → from % 64 ≤ bit → bit < 64 → bit_at (get_or words (from / 64) 0) bit ≡ 1 → (from ≤ from / 64 * 64 + bit) × (from / 64 * 64 + bit < 64 * length words) × (bit_of words (from / 64 * 64 + bit) ≡ true)
beside_found words from bit within above inside set =
    (omega arith, omega arith, bit_of-place words (from / 64) bit inside ∙ ap (λ x. eqb x 1) set)

pub beside_first : (words : List ℕ) (from bit : ℕ) → bit < 64 → ((j : ℕ) → from % 64 ≤ j → j < bit → bit_at (get_or words (from / 64) 0) j ≡ 0) → NoBit words from (from / 64 * 64 + bit)
beside_first words from bit inside first = λ j above below.
    let same : j / 64 ≡ from / 64 = omega arith in
    bit_of-clear words (from / 64) j same (first (j % 64) (omega arith) (omega arith))

pub beside_none : (words : List ℕ) (from : ℕ) → get_or words (from / 64) 0 / 2 ^ (from % 64) ≡ 0 → NoBit words from (64 * (from / 64 + 1))
beside_none words from none = λ j above below.
    let same : j / 64 ≡ from / 64 = omega arith in
    bit_of-clear words (from / 64) j same (none_set (get_or words (from / 64) 0) (from % 64) none (j % 64) (omega arith))
