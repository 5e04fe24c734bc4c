-- Bits in a list of 64-bit words, and two levels of them: a bit for each number, and a bit for each of these words.
use Rattle.std.specs.Prelude.{◌≡◌, ◌+◌, ◌/◌, ◌%◌, ◌^◌, ◌<◌, ◌≤◌, ◌==◌, ℕ, Bool, false, List, length, map, nat_lt, slice_index, slice_set}
use Rattle.std.specs.Int.{bit_at, bit_not, w64}
use Rattle.std.specs.Int.RustNames.{bit_and, bit_or}
use Rattle.std.specs.List.{range_with_len}

-- whether a bit is set; past the last word none is
unfoldable pub bit_of : List ℕ → ℕ → Bool
bit_of words bit = bit_at (slice_index words (bit / 64)) (bit % 64) == 1

-- the words with a bit set, and with it cleared
abbrev pub with_bit : List ℕ → ℕ → List ℕ
with_bit words bit = slice_set words (bit / 64) (bit_or (slice_index words (bit / 64)) (2 ^ (bit % 64)))

abbrev pub without_bit : List ℕ → ℕ → List ℕ
without_bit words bit = slice_set words (bit / 64) (bit_and (slice_index words (bit / 64)) (bit_not w64 (2 ^ (bit % 64))))

-- none of the bits from low on, and below high, is set
abbrev pub NoBit : List ℕ → ℕ → ℕ → Type 0
NoBit words low high = (j : ℕ) → low ≤ j → j < high → bit_of words j ≡ false

-- the first bits as a list
abbrev pub marks_of : ℕ → List ℕ → List Bool
marks_of bound words = map (bit_of words) (range_with_len 0 bound)

-- the words of so many numbers, and their sums: a bit for each word, set where the word isn't 0
pub record AreBits (bound : ℕ) (words sums : List ℕ) : Type 0 where
  pub few : bound < 2 ^ 32
  pub words_len : length words ≡ bound / 64 + 1
  pub sums_len : length sums ≡ length words / 64 + 1
  pub within : (number : ℕ) → bound ≤ number → bit_of words number ≡ false
  pub summed : (word : ℕ) → bit_of sums word ≡ nat_lt 0 (slice_index words word)
