-- The numbers on the command line (this project's own): 1 to 20 decimal digits, in a range.
use Rattle.std.specs.Prelude.{ℕ, ◌^◌, ◌&&◌, List, Option, Some, None, nat_le, nat_lt, option_and_then, if◌then◌else◌}
use Rattle.pm_linetext.specs.Digits.{natural_in}

-- the number that a word of 1 to 20 digits writes, where it is below 2^64; zeros may stand in front
unfoldable pub number_in : List ℕ → Option ℕ
number_in word = option_and_then (λ n. if nat_lt n (2 ^ 64) then Some n else None) (natural_in 20 word)

-- the same, where it is 1 to a greatest number
abbrev pub within : ℕ → Option ℕ → Option ℕ
within most None = None
within most (Some n) = if nat_le 1 n && nat_le n most then Some n else None

abbrev pub hands_in : List ℕ → Option ℕ
hands_in word = within 16 (number_in word)

abbrev pub devices_in : List ℕ → Option ℕ
devices_in word = within 1024 (number_in word)
