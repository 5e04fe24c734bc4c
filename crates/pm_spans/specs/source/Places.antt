-- Places in a text: lines and columns from 1 (this project's own). A line ends before its newline.
use Rattle.std.specs.Prelude.{ℕ, ◌+◌, ◌-◌, ◌≤◌, max, min, Bool, not, ◌||◌, List, [], ◌∷◌, take, drop, length, nat_eq, nat_lt, nat_le, count_by, slice_index, slice_range, if◌then◌else◌}
use Rattle.std.specs.List.{position_or_len, suffix_len}
use Rattle.std.specs.Str.{bytes_eq}

abbrev pub is_newline : ℕ → Bool
is_newline c = nat_eq c 10

-- the byte doesn't go on with a character of UTF-8 that stands before it
abbrev pub is_start : ℕ → Bool
is_start c = nat_lt c 128 || nat_le 192 c

-- how many characters the bytes have
abbrev pub chars : List ℕ → ℕ
chars bytes = count_by is_start bytes

-- how many lines the text has
abbrev pub line_count : List ℕ → ℕ
line_count text = count_by is_newline text + 1

-- the line of a place: one more than the newlines before it
abbrev pub line_of : List ℕ → ℕ → ℕ
line_of text at = count_by is_newline (take at text) + 1

-- the bytes of a byte order mark, and how many of them the text begins with: all or none
abbrev pub mark : List ℕ
mark = 239 ∷ 187 ∷ 191 ∷ []

unfoldable pub mark_len : List ℕ → ℕ
mark_len text = if bytes_eq (take 3 text) mark then 3 else 0

-- where the line of a place begins: behind the last newline before the place, or behind the byte order mark
abbrev pub line_start : List ℕ → ℕ → ℕ
line_start text at = max (at - suffix_len (λ c. not (is_newline c)) (take at text)) (min at (mark_len text))

-- where the line of a place ends: at the first newline from the place on, or at the end of the text
abbrev pub line_end : List ℕ → ℕ → ℕ
line_end text at = at + position_or_len is_newline (drop at text)

-- a carriage return at the end of a line is no part of it
unfoldable pub without_return : List ℕ → List ℕ
without_return line = if nat_eq (slice_index line (length line - 1)) 13 then take (length line - 1) line else line

-- what stands on the line of a place
unfoldable pub line_text : List ℕ → ℕ → List ℕ
line_text text at = without_return (slice_range text (line_start text at) (line_end text at))

-- what stands on the line before the place
abbrev pub text_before : List ℕ → ℕ → List ℕ
text_before text at = take (at - line_start text at) (line_text text at)

-- what stands on the line from the place on
abbrev pub text_behind : List ℕ → ℕ → List ℕ
text_behind text at = drop (at - line_start text at) (line_text text at)

-- the column of a place: one more than the characters before it on its line
abbrev pub column_of : List ℕ → ℕ → ℕ
column_of text at = chars (text_before text at) + 1

-- the place lies in the text: on one of its lines, and no further than the end of that line
pub record IsInText (text : List ℕ) (at line column : ℕ) : Type 0 where
  pub line_from_one : 1 ≤ line
  pub line_there : line ≤ line_count text
  pub column_from_one : 1 ≤ column
  pub column_there : column ≤ chars (line_text text at) + 1
