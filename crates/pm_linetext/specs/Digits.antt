-- The number that decimal digits write.
use Rattle.std.specs.Prelude.{ℕ, Bool, List, Option, Some, None, ◌&&◌, length, nat_le, if◌then◌else◌}
use Rattle.std.specs.Char.{is_ascii_digit}
use Rattle.std.specs.List.{list_all}
use Rattle.std.specs.Str.Parse.{digits_value}

-- 1 to so many decimal digits
abbrev pub are_digits : ℕ → List ℕ → Bool
are_digits most text = (nat_le 1 (length text) && nat_le (length text) most) && list_all is_ascii_digit text

-- the number that 1 to so many digits write
unfoldable pub natural_in : ℕ → List ℕ → Option ℕ
natural_in most text = if are_digits most text then Some (digits_value 10 text) else None
