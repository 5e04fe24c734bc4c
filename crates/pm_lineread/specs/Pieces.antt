-- Reading from left to right. A reader answers what the bytes spell, or how many of them are left behind the
-- most that they have in common, from the front, with a text that it could read (this project's own).
use Rattle.std.specs.Prelude.{ℕ, ◌+◌, ◌-◌, ◌*◌, Bool, true, ◌&&◌, List, [], ◌∷◌, Option, Some, None, Result, Ok, Err, min, length, take, drop, nat_eq, nat_le, nat_lt, slice_get, if◌then◌else◌}
use Rattle.std.specs.List.{position_or_len}
use Rattle.pm_model.specs.NamedList.{common_len, place_named}

infixl 10 ◌>>=◌
abbrev pub ◌>>=◌ : {A B : Type 0} → Result A ℕ → (A → Result B ℕ) → Result B ℕ
(Ok x) >>= f = f x
(Err left) >>= f = Err left

-- the first that reads the bytes, and else the less that is left
abbrev pub either_of : {A : Type 0} → Result A ℕ → Result A ℕ → Result A ℕ
either_of (Ok x) second = Ok x
either_of (Err m) (Ok x) = Ok x
either_of (Err m) (Err n) = Err (min m n)

-- the value, where no bytes follow it
unfoldable pub ended : {A : Type 0} → A → List ℕ → Result A ℕ
ended x [] = Ok x
ended x (b ∷ rest) = Err (length (b ∷ rest))

-- what follows a word
unfoldable pub literal_at : List ℕ → List ℕ → Result (List ℕ) ℕ
literal_at [] bytes = Ok bytes
literal_at (c ∷ word) [] = Err 0
literal_at (c ∷ word) (b ∷ bytes) = if nat_eq b c then literal_at word bytes else Err (length (b ∷ bytes))

-- nothing follows, or this byte
abbrev pub ends : ℕ → List ℕ → Bool
ends stop [] = true
ends stop (b ∷ rest) = nat_eq b stop

abbrev pub placed : Option ℕ → List ℕ → ℕ → Result (ℕ × List ℕ) ℕ
placed None rest left = Err left
placed (Some place) rest left = Ok (place, rest)

-- the place of the word before the first stop, and what follows the word
unfoldable pub place_at : List (List ℕ) → ℕ → List ℕ → Result (ℕ × List ℕ) ℕ
place_at words stop bytes =
    let n = position_or_len (λ b. nat_eq b stop) bytes in
    placed (place_named (take n bytes) words) (drop n bytes) (length bytes - common_len bytes words)

abbrev pub itemed : {X : Type 0} → Option X → List ℕ → Result (X × List ℕ) ℕ
itemed None rest = Err (length rest)
itemed (Some x) rest = Ok (x, rest)

-- the item at the place of the word before the first stop, and what follows the word
unfoldable pub item_at : {X : Type 0} → List (List ℕ) → List X → ℕ → List ℕ → Result (X × List ℕ) ℕ
item_at words items stop bytes = do
  found ← place_at words stop bytes
  itemed (slice_get items found.0) found.1

-- the value of a digit, and 16 for a byte that is no digit
unfoldable pub digit_value : ℕ → ℕ
digit_value b = if nat_le 48 b && nat_le b 57 then b - 48 else (if nat_le 97 b && nat_le b 102 then b - 87 else 16)

-- a number can go on with this digit: it isn't 0, and stays at most as large as numbers may be
abbrev pub goes_on : ℕ → ℕ → ℕ → ℕ → Bool
goes_on base most n digit = nat_lt 0 n && nat_lt digit base && nat_le (n * base + digit) most

-- the number that begins with the digits of n and goes on with these, and what follows it
abbrev pub longer_at : ℕ → ℕ → ℕ → List ℕ → ℕ × List ℕ
longer_at base most n [] = (n, [])
longer_at base most n (b ∷ bytes) =
    if goes_on base most n (digit_value b) then longer_at base most (n * base + digit_value b) bytes else (n, b ∷ bytes)

abbrev pub closed : ℕ → ℕ → List ℕ → Result (ℕ × List ℕ) ℕ
closed stop n rest = if ends stop rest then Ok (n, rest) else Err (length rest)

abbrev pub digit_starts : ℕ → ℕ → ℕ → ℕ → Bool
digit_starts base least most digit = nat_lt digit base && nat_le least digit && nat_le digit most

-- a number from least, 0 or 1, to most, with a stop behind it, and what follows it
unfoldable pub number_at : ℕ → ℕ → ℕ → ℕ → List ℕ → Result (ℕ × List ℕ) ℕ
number_at base least most stop [] = Err 0
number_at base least most stop (b ∷ bytes) =
    if digit_starts base least most (digit_value b)
    then (let found = longer_at base most (digit_value b) bytes in closed stop found.0 found.1)
    else Err (length (b ∷ bytes))
