-- How bytes of the user's are written in a text of JSON (RFC 8259, section 7).
use Rattle.std.specs.Prelude.{ℕ, Bool, not, ◌&&◌, ◌||◌, nat_eq, nat_lt, if◌then◌else◌}

-- no quote, no backslash and no control character
abbrev pub is_plain : ℕ → Bool
is_plain b = not (nat_eq b 34) && not (nat_eq b 92) && not (nat_lt b 32)

-- a question mark for each of these characters, and every other byte itself
abbrev pub plain_byte : ℕ → ℕ
plain_byte b = if is_plain b then b else 63
