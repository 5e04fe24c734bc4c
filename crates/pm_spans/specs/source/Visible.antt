-- Text that is shown as UTF-8, with nothing in it that acts on a terminal (this project's own).
use Rattle.std.specs.Prelude.{ℕ, ◌+◌, ◌-◌, ◌/◌, ◌%◌, Bool, not, ◌&&◌, ◌||◌, List, [], ◌∷◌, ◌++◌, nat_eq, nat_le, nat_lt, slice_get, if◌then◌else◌}
use Rattle.std.specs.Option.{unwrap_or}

-- a control character, and no tab
abbrev pub is_control : ℕ → Bool
is_control c = (nat_lt c 32 && not (nat_eq c 9)) || nat_eq c 127

abbrev pub is_within : ℕ → ℕ → ℕ → Bool
is_within least greatest c = nat_le least c && nat_le c greatest

-- the byte at a place, and 0 behind the end
abbrev pub byte_at : List ℕ → ℕ → ℕ
byte_at bytes n = unwrap_or (slice_get bytes n) 0

-- a byte that goes on with a character of UTF-8
abbrev pub is_tail : ℕ → Bool
is_tail c = is_within 128 191 c

-- the second byte of a character that has more than two, by its first (RFC 3629, section 4)
unfoldable pub is_second : ℕ → ℕ → Bool
is_second a b =
    if nat_eq a 224 then is_within 160 191 b
    else if nat_eq a 237 then is_within 128 159 b
    else if nat_eq a 240 then is_within 144 191 b
    else if nat_eq a 244 then is_within 128 143 b
    else is_tail b

-- how many bytes the character of UTF-8 has that stands at the front, and 0 where none does (RFC 3629, section 4)
unfoldable pub char_len : ℕ → ℕ → ℕ → ℕ → ℕ
char_len a b c d =
    if nat_lt a 128 then 1
    else if is_within 194 223 a && is_tail b then 2
    else if is_within 224 239 a && is_second a b && is_tail c then 3
    else if is_within 240 244 a && is_second a b && is_tail c && is_tail d then 4
    else 0

-- a character that isn't shown as it is: U+0080 to U+009F, which control a terminal, and those that turn the direction of
-- what stands behind them: U+061C, U+200E, U+200F, U+202A to U+202E, U+2066 to U+2069
unfoldable pub is_hidden : ℕ → ℕ → ℕ → Bool
is_hidden a b c =
    (nat_eq a 194 && nat_lt b 160)
    || (nat_eq a 216 && nat_eq b 156)
    || (nat_eq a 226 && nat_eq b 128 && (is_within 142 143 c || is_within 170 174 c))
    || (nat_eq a 226 && nat_eq b 129 && is_within 166 169 c)

-- how many bytes at the front are shown as they are: those of one character, or none
unfoldable pub plain_len : List ℕ → ℕ
plain_len bytes =
    let a = byte_at bytes 0 in
    let b = byte_at bytes 1 in
    let c = byte_at bytes 2 in
    if is_control a || is_hidden a b c then 0 else char_len a b c (byte_at bytes 3)

-- the digit of a number below 16
abbrev pub hex_digit : ℕ → ℕ
hex_digit n = if nat_lt n 10 then 48 + n else 87 + n

-- a byte that isn't shown as it is: \x and two digits
abbrev pub hex_byte : ℕ → List ℕ
hex_byte c = 92 ∷ 120 ∷ hex_digit (c / 16) ∷ hex_digit (c % 16) ∷ []

-- how many bytes from here on are of one character that is shown, where so many go on with one
abbrev pub plain_left : ℕ → List ℕ → ℕ
plain_left n bytes = if nat_eq n 0 then plain_len bytes else n

-- a byte as it is shown, where so many from it on are of one character that is shown
unfoldable pub shown_byte : ℕ → ℕ → List ℕ
shown_byte n c = if nat_eq n 0 then hex_byte c else c ∷ []

-- bytes as they are shown, of which the first so many go on with a character
unfoldable pub visible_from : ℕ → List ℕ → List ℕ
visible_from n [] = []
visible_from n (c ∷ cs) = shown_byte (plain_left n (c ∷ cs)) c ++ visible_from (plain_left n (c ∷ cs) - 1) cs

abbrev pub visible : List ℕ → List ℕ
visible bytes = visible_from 0 bytes
