-- A line of a text, shown with a token of it underlined (this project's own). At most 120 columns are shown; where the line is
-- longer, `..` stands for what is cut.
use Rattle.std.specs.Prelude.{ℕ, ◌+◌, ◌-◌, max, min, ◌&&◌, List, [], ◌∷◌, ◌++◌, take, drop, codes, decimal, flat_map, length, nat_eq, nat_lt, replicate, if◌then◌else◌}
use Rattle.pm_spans.specs.source.Places.{chars, is_start, line_of, line_text, text_before, text_behind}
use Rattle.pm_spans.specs.source.Visible.{visible}

-- how many bytes the first n characters are
unfoldable pub front_len : ℕ → List ℕ → ℕ
front_len n [] = 0
front_len n (c ∷ cs) =
    if is_start c then (if nat_eq n 0 then 0 else 1 + front_len (n - 1) cs) else 1 + front_len n cs

abbrev pub first_chars : ℕ → List ℕ → List ℕ
first_chars n bytes = take (front_len n bytes) bytes

-- the last n characters, or all of fewer
abbrev pub last_chars : ℕ → List ℕ → List ℕ
last_chars n bytes = drop (front_len (chars bytes - n) bytes) bytes

-- what is shown of the line before the token: all of it, or its last 38 characters where the line is long
unfoldable pub shown_before : List ℕ → List ℕ → List ℕ
shown_before line before = if nat_lt 120 (chars line) && nat_lt 40 (chars before) then codes ".." ++ last_chars 38 before else before

-- what is shown in so many columns of the line from the token on
unfoldable pub shown_behind : ℕ → List ℕ → List ℕ
shown_behind width behind = if nat_lt width (chars behind) then first_chars (width - 2) behind ++ codes ".." else behind

-- the columns that are left behind what is shown
abbrev pub width_behind : List ℕ → ℕ
width_behind before = 120 - chars before

-- below a character stands a space, and below a tab a tab, so that what follows is in its column
unfoldable pub blank : ℕ → List ℕ
blank c = if is_start c then (if nat_eq c 9 then codes "\t" else codes " ") else []

-- as wide as the bytes, and blank
abbrev pub blanks : List ℕ → List ℕ
blanks bytes = flat_map blank bytes

-- one caret for each character of the token that is shown, and one where it has none
abbrev pub carets : ℕ → List ℕ → List ℕ
carets width token = replicate (max 1 (min width (chars token))) 94

-- the margin of the lines that have no number
unfoldable pub margin : ℕ → List ℕ
margin line = replicate (length (decimal line) + 2) 32

-- the three lines, of what stands on the line in all, before the token and from it on, where the token has so many bytes
unfoldable pub excerpt : ℕ → List ℕ → List ℕ → List ℕ → ℕ → List ℕ
excerpt number line before behind len =
    let shown = shown_before line before in
    let width = width_behind shown in
    margin number ++ codes "|\n" ++
    codes " " ++ decimal number ++ codes " | " ++ shown ++ shown_behind width behind ++ codes "\n" ++
    margin number ++ codes "| " ++ blanks shown ++ carets width (take len behind) ++ codes "\n"

-- the line of a text on which a token begins that stands from `start` to `stop`
unfoldable pub excerpt_text : List ℕ → ℕ → ℕ → List ℕ
excerpt_text text start stop =
    let behind = text_behind text start in
    excerpt (line_of text start) (visible (line_text text start)) (visible (text_before text start)) (visible behind)
    (length (visible (take (stop - start) behind)))

-- a line below the excerpt of the line of a place
unfoldable pub hint_text : List ℕ → ℕ → List ℕ → List ℕ
hint_text text at hint = margin (line_of text at) ++ codes "= " ++ visible hint ++ codes "\n"
