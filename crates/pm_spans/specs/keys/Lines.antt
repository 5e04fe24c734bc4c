-- The lines of a plan's text, and which of them is what is looked for (this project's own).
use Rattle.std.specs.Prelude.{ℕ, zero, suc, ◌+◌, ◌-◌, Bool, false, not, ◌&&◌, ◌==◌, if◌then◌else◌, List, [], ◌∷◌, drop, take, length, Option, Some, None, option_map, option_and_then, unwrap_or}
use Rattle.std.specs.Option.{option_or}
use Rattle.std.specs.Str.{bytes_eq}
use Rattle.toml_parser.specs.Lexical.{first, skip_blank, skip_ws}
use Rattle.toml_parser.specs.Strings.{Key, key}
use Rattle.pm_spans.specs.declared.keys.lookup.Path.{Path}
use Rattle.pm_spans.specs.declared.keys.lookup.Found.{Found}
use Rattle.pm_spans.specs.source.Places.{mark}
use Rattle.pm_spans.specs.keys.Values.{Member, Standing, element_in, element_of, first_name, member_at, member_in, second_name, within_member}

infixl 10 ◌>>=◌
abbrev ◌>>=◌ : {A B : Type 0} → Option A → (A → Option B) → Option B
o >>= f = option_and_then f o

-- `[key]` or `[[key]]`: the key, whether it begins an element of an array, how many bytes are left where the header and its key
-- begin, and what follows the header
pub record Heading : Type 0 where
  pub name : Key
  pub is_array : Bool
  pub from : ℕ
  pub key_from : ℕ
  pub rest : List ℕ

-- a line: a header, or a key with its value
pub data TextLine : Type 0 where
  OfHeading : Heading → TextLine
  OfMember : Member → TextLine

-- behind the brackets that close a header
unfoldable pub closed_end : Bool → List ℕ → Option (List ℕ)
closed_end is_array s =
    if not (first s == 93) then None
    else if not is_array then Some (drop 1 s)
    else if first (drop 1 s) == 93 then Some (drop 2 s)
    else None

-- what stands behind the brackets that open it
unfoldable pub opened : List ℕ → List ℕ
opened s = if first (drop 1 s) == 91 then drop 1 (drop 1 s) else drop 1 s

-- the header at the front
unfoldable pub heading_at : List ℕ → Option Heading
heading_at s =
    if not (first s == 91) then None
    else (do
      read ← key (skip_ws (opened s))
      rest ← closed_end (first (drop 1 s) == 91) read.1
      Some (record { name = read.0; is_array = first (drop 1 s) == 91; from = length s; key_from = length (skip_ws (opened s)); rest = rest }))

-- the line at the front, with what follows it
unfoldable pub line_at : List ℕ → Option (TextLine × List ℕ)
line_at s =
    if first s == 91 then option_map (λ h. (OfHeading h, h.rest)) (heading_at s)
    else option_map (λ m. (OfMember m, m.rest)) (member_at s)

-- the first n lines of a text, in order; up to where it is no TOML
unfoldable pub text_lines : ℕ → List ℕ → List TextLine
text_lines zero s = []
text_lines (suc n) s = unwrap_or (option_map (λ read. read.0 ∷ text_lines n (skip_blank read.1)) (line_at s)) []

-- a header begins an element of the array of tables that is looked for
abbrev pub begins_element : Path → Heading → Bool
begins_element path h = h.is_array && length h.name.0 == 0 && bytes_eq h.name.1 path.top.now

unfoldable pub is_begin : Path → TextLine → Bool
is_begin path (OfHeading h) = begins_element path h
is_begin path (OfMember m) = false

-- how many elements have begun in these lines
unfoldable pub begun : Path → List TextLine → ℕ
begun path [] = 0
begun path (line ∷ before) = if is_begin path line then begun path before + 1 else begun path before

-- a header speaks of the element that is looked for, where so many have begun
unfoldable pub is_of_element : Path → Heading → ℕ → Bool
is_of_element path h n = unwrap_or (option_map (λ index. bytes_eq (first_name h.name) path.top.now && n == index + 1) path.item) false

-- whose keys the lines say that follow: those of the top, where no header stands before; or of the element that is looked for,
-- where the last header begins it
pub data Whose : Type 0 where
  TheTops TheElements Others : Whose

abbrev pub whose_behind : Path → Heading → ℕ → Whose
whose_behind path h n = if begins_element path h && is_of_element path h n then TheElements else Others

unfoldable pub whose : Path → List TextLine → Whose
whose path [] = TheTops
whose path (OfHeading h ∷ before) = whose_behind path h (begun path (OfHeading h ∷ before))
whose path (OfMember m ∷ before) = whose path before

-- a header's key has this second part
abbrev pub has_second : List ℕ → Heading → Bool
has_second name h = unwrap_or (option_map (λ second. bytes_eq second name) (second_name h.name)) false

-- a header is what is looked for, where so many elements have begun: the table of a key, the first one of an array, or an element of it
unfoldable pub is_wanted_heading : Path → ℕ → Heading → Bool
is_wanted_heading path n h =
    unwrap_or
    (option_map (λ name. is_of_element path h n && has_second name.now h) path.key)
    (unwrap_or (option_map (λ index. begins_element path h && is_of_element path h n) path.item) (bytes_eq (first_name h.name) path.top.now))

-- it stands by its key, and the whole header in the place of a value
unfoldable pub in_heading : Path → ℕ → Heading → Option Standing
in_heading path n h =
    if is_wanted_heading path n h then Some (h.key_from, h.from, length h.rest) else None

-- what is looked for in a key of the top: the key, an element of its array, or a key of the inline table there
unfoldable pub in_top : Path → Member → Option Standing
in_top path m =
    unwrap_or
    (option_map
    (λ index. unwrap_or (option_map (λ name. element_of index m.value >>= member_in name.now path.element) path.key) (element_in index m.value))
    path.item)
    (within_member None m)

-- a key with its value, as what is looked for
unfoldable pub in_member : Path → Whose → Member → Option Standing
in_member path TheTops m = if bytes_eq (first_name m.name) path.top.now then in_top path m else None
in_member path TheElements m =
    unwrap_or (option_map (λ name. if bytes_eq (first_name m.name) name.now then within_member path.element m else None) path.key) None
in_member path Others m = None

-- a line, as what is looked for, by those before it, the newest first
unfoldable pub in_line : Path → List TextLine → TextLine → Option Standing
in_line path before (OfHeading h) = in_heading path (begun path (OfHeading h ∷ before)) h
in_line path before (OfMember m) = in_member path (whose path before) m

-- the first line that is what is looked for, behind those before it
unfoldable pub first_in : Path → List TextLine → List TextLine → Option Standing
first_in path before [] = None
first_in path before (line ∷ lines) = option_or (in_line path before line) (first_in path (line ∷ before) lines)

-- where in a text that no blanks begin what is looked for stands
unfoldable pub standing_in : Path → List ℕ → Option Standing
standing_in path text = first_in path [] (text_lines (length text) text)

-- a place that was found has these bytes left where the key and the value begin, and where the value ends
abbrev pub found_places : Found → ℕ × ℕ × ℕ
found_places f = (f.key.start, f.value.start, f.value.end)

abbrev pub from_the_end : List ℕ → Standing → ℕ × ℕ × ℕ
from_the_end text s = (length text - s.0, length text - s.1, length text - s.2)

-- a text without its byte order mark
unfoldable pub unmarked : List ℕ → List ℕ
unmarked text = if bytes_eq (take 3 text) mark then drop 3 text else text
