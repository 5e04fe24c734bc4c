-- A number of a name, by which nearly all names differ (this project's own).
use Rattle.std.specs.Prelude.{ℕ, ◌+◌, ◌*◌, ◌^◌, ◌%◌, Bool, true, ◌&&◌, List, [], ◌∷◌, nat_lt}

-- the number with one more byte
abbrev pub number_with : ℕ → ℕ → ℕ
number_with n c = ((n + (c + 1)) % 2 ^ 64 * 11400714819323198485) % 2 ^ 64

abbrev pub number_from : ℕ → List ℕ → ℕ
number_from n [] = n
number_from n (c ∷ name) = number_from (number_with n c) name

abbrev pub number_of : List ℕ → ℕ
number_of name = number_from 0 name

-- whether each number is greater than the one before it, and the first than this one
abbrev pub is_rising : ℕ → List ℕ → Bool
is_rising low [] = true
is_rising low (n ∷ numbers) = nat_lt low n && is_rising n numbers
