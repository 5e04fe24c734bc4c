-- The numbers that a command takes: an optional minus sign and 1 to 10 decimal digits, or the words on and off (this
-- project's own).
use Rattle.std.specs.Prelude.{ℕ, Bool, ◌&&◌, ◌||◌, List, [], ◌∷◌, Option, Some, None, ℤ, pos, neg_ℤ, codes, nat_eq, int_le, option_and_then, option_map, if◌then◌else◌}
use Rattle.std.specs.Ordering.{int_eq}
use Rattle.std.specs.Str.{bytes_eq}
use Rattle.pm_model.specs.IsPlan.{least_ms}
use Rattle.pm_model.specs.declared.event.Helper.{Helper}
use Rattle.pm_linetext.specs.Digits.{natural_in}

-- the number that an optional minus sign and digits write; -0 is 0
unfoldable pub number_in : List ℕ → Option ℤ
number_in [] = None
number_in (c ∷ text) =
    if nat_eq c 45 then option_map (λ n. neg_ℤ (pos n)) (natural_in 10 text) else option_map (λ n. pos n) (natural_in 10 (c ∷ text))

-- the helper takes this number
abbrev pub is_taken : Helper → ℤ → Bool
is_taken h n = int_le (least_ms h) n && int_le n (pos 1000000)

-- the number, where the helper takes it
abbrev pub taken : Helper → ℤ → Option ℤ
taken h n = if is_taken h n then Some n else None

-- the milliseconds that a word writes for the helper
unfoldable pub milliseconds_in : Helper → List ℕ → Option ℤ
milliseconds_in h word = option_and_then (taken h) (number_in word)

abbrev pub is_switch : ℤ → Bool
is_switch n = int_eq n (pos 0) || int_eq n (pos 1)

-- on is 1 and off is 0
unfoldable pub switch_in : List ℕ → Option ℤ
switch_in word = if bytes_eq word (codes "on") then Some (pos 1) else if bytes_eq word (codes "off") then Some (pos 0) else None
