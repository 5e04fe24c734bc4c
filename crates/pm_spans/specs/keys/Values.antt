-- Where a value of a TOML text ends, and what stands in an array and in an inline table (this project's own, by the grammar of the
-- kit's toml_parser). A place is what is left of the text there.
use Rattle.std.specs.Prelude.{ℕ, zero, suc, ◌+◌, ◌-◌, Bool, ◌&&◌, ◌||◌, ◌==◌, nat_lt, if◌then◌else◌, List, [], drop, length, Option, Some, None, option_map, option_and_then, unwrap_or, slice_get}
use Rattle.std.specs.Str.{bytes_eq}
use Rattle.toml_parser.specs.Lexical.{first, skip_blank, skip_ws}
use Rattle.toml_parser.specs.Numbers.{unquoted}
use Rattle.toml_parser.specs.Strings.{Key, key, quoted, starts_string}

infixl 10 ◌>>=◌
abbrev ◌>>=◌ : {A B : Type 0} → Option A → (A → Option B) → Option B
o >>= f = option_and_then f o

-- behind a string, and behind a number, a boolean or a date
unfoldable pub string_end : List ℕ → Option (List ℕ)
string_end s = if starts_string s then option_map (λ read. read.1) (quoted s) else None

unfoldable pub word_end : List ℕ → Option (List ℕ)
word_end s = option_map (λ read. read.1) (unquoted s)

-- behind a byte of ASCII
unfoldable pub byte_end : List ℕ → Option (List ℕ)
byte_end s = if nat_lt 0 (first s) && nat_lt (first s) 128 then Some (drop 1 s) else None

-- behind a string, or else behind a byte
unfoldable pub piece_end : List ℕ → Option (List ℕ)
piece_end s = if starts_string s then string_end s else byte_end s

-- how many brackets are open behind a byte
unfoldable pub depth_behind : ℕ → ℕ → ℕ
depth_behind depth byte = if byte == 91 || byte == 123 then depth + 1 else if byte == 93 || byte == 125 then depth - 1 else depth

-- behind the bracket that closes as many as are open: of at most n pieces the first behind which none is
unfoldable pub brackets_end : ℕ → ℕ → List ℕ → Option (List ℕ)
brackets_end zero depth s = None
brackets_end (suc n) depth s = do
  after ← piece_end s
  if depth_behind depth (first s) == 0 then Some after else brackets_end n (depth_behind depth (first s)) (skip_blank after)

-- behind a value
unfoldable pub value_end : List ℕ → Option (List ℕ)
value_end s =
    if first s == 91 || first s == 123 then brackets_end (length s) 0 s
    else if starts_string s then string_end s
    else word_end s

-- behind a comma and the blanks around it
unfoldable pub comma_end : List ℕ → Option (List ℕ)
comma_end s = if first (skip_blank s) == 44 then Some (skip_blank (drop 1 (skip_blank s))) else None

-- behind n values, a comma behind each
unfoldable pub behind_values : ℕ → List ℕ → Option (List ℕ)
behind_values zero s = Some s
behind_values (suc n) s = do
  after ← value_end s
  next ← comma_end after
  behind_values n next

-- the element of the array at the front, counted from 0
unfoldable pub element_of : ℕ → List ℕ → Option (List ℕ)
element_of index s = do
  at ← (if first s == 91 then behind_values index (skip_blank (drop 1 s)) else None)
  if length at == 0 || first at == 93 then None else Some at

-- a key, how many bytes are left where it begins, what stands behind its `=`, and what follows the value
pub record Member : Type 0 where
  pub name : Key
  pub from : ℕ
  pub value : List ℕ
  pub rest : List ℕ

-- the first part of a key, and the second
unfoldable pub first_name : Key → List ℕ
first_name name = unwrap_or (slice_get name.0 0) name.1

unfoldable pub second_name : Key → Option (List ℕ)
second_name name = if length name.0 == 1 then Some name.1 else slice_get name.0 1

-- the key and the value at the front
unfoldable pub member_at : List ℕ → Option Member
member_at s = do
  read ← key s
  rest ← (if first read.1 == 61 then value_end (skip_ws (drop 1 read.1)) else None)
  Some (record { name = read.0; from = length s; value = skip_ws (drop 1 read.1); rest = rest })

-- where something stands: where its key begins, and where its value begins and ends, each by the bytes that are left there
abbrev pub Standing : Type 0
Standing = ℕ × ℕ × ℕ

-- an element of an array, which has no key
unfoldable pub element_in : ℕ → List ℕ → Option Standing
element_in index s = do
  at ← element_of index s
  rest ← value_end at
  Some (length at, length at, length rest)

-- a member, or an element of its value
unfoldable pub within_member : Option ℕ → Member → Option Standing
within_member None m = Some (m.from, length m.value, length m.rest)
within_member (Some index) m = option_map (λ e. (m.from, e.1, e.2)) (element_in index m.value)

-- of members that commas part, the first of this name, among the first n
unfoldable pub member_named : ℕ → List ℕ → Option ℕ → List ℕ → Option Standing
member_named zero name element s = None
member_named (suc n) name element s = do
  m ← member_at s
  (if bytes_eq (first_name m.name) name then within_member element m else (comma_end m.rest >>= member_named n name element))

-- the same among all members
unfoldable pub named_in : List ℕ → Option ℕ → List ℕ → Option Standing
named_in name element s = member_named (length s) name element s

-- of the inline table at the front
unfoldable pub member_in : List ℕ → Option ℕ → List ℕ → Option Standing
member_in name element s = if first s == 123 then named_in name element (skip_blank (drop 1 s)) else None
