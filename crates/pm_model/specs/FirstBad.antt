-- Which bytes are the text of a lawful list, and the first line at which they aren't (this project's own). Lists have
-- the newest line first.
use Rattle.std.specs.Prelude.{ℕ, zero, suc, ◌≡◌, ◌<◌, ◌≤◌, ◌⊎◌, Bool, true, List, [], ◌∷◌, reverse, nat_eq, if◌then◌else◌}
use Rattle.std.specs.List.{list_all, starts_with}
use Rattle.pm_model.specs.declared.event.Line.{Line}
use Rattle.pm_model.specs.declared.plan.Plan.{Plan}
use Rattle.pm_model.specs.Lawful.{IsLawful, last_time}
use Rattle.pm_model.specs.LineOf.{is_line_of}
use Rattle.pm_model.specs.Spelling.{header}
use Rattle.pm_model.specs.Text.{text1, text2}

-- each line is a line of the plan, so that it has a text
abbrev pub AreLinesOf : Plan → List Line → Type 0
AreLinesOf plan h = list_all (is_line_of plan) h ≡ true

-- no line is earlier than the one before it
abbrev pub TimesDontFall : List Line → Type 0
TimesDontFall [] = Unit {0}
TimesDontFall (line ∷ h) = (last_time h ≤ line.time) × TimesDontFall h

-- the bytes are the text of the list in format 1, and in format 2, in which only a list whose times don't fall has one
abbrev pub IsText1 : Plan → List ℕ → List Line → Type 0
IsText1 plan bytes h = AreLinesOf plan h × (bytes ≡ text1 plan (reverse h))

abbrev pub IsText2 : Plan → List ℕ → List Line → Type 0
IsText2 plan bytes h = AreLinesOf plan h × TimesDontFall h × (bytes ≡ text2 plan (reverse h))

-- the bytes are the text of the list, in either format
abbrev pub StandsFor : Plan → List ℕ → List Line → Type 0
StandsFor plan bytes h = IsText1 plan bytes h ⊎ IsText2 plan bytes h

abbrev pub IsLawfulText : Plan → List ℕ → Type 0
IsLawfulText plan bytes = (h : List Line) × IsLawful plan h × StandsFor plan bytes h

-- the bytes up to the n-th newline, or all of them
abbrev pub first_lines : ℕ → List ℕ → List ℕ
first_lines zero bytes = []
first_lines (suc n) [] = []
first_lines (suc n) (b ∷ bytes) = b ∷ (if nat_eq b 10 then first_lines n bytes else first_lines (suc n) bytes)

abbrev pub is_format2 : List ℕ → Bool
is_format2 bytes = starts_with nat_eq bytes header

-- the header, where there is one, and the first n lines with their newlines; a rest without one counts as a line
abbrev pub front : ℕ → List ℕ → List ℕ
front n bytes = first_lines (if is_format2 bytes then suc n else n) bytes

-- n, counted from 1, is the least number of lines that are no lawful text
pub record IsFirstBad (plan : Plan) (bytes : List ℕ) (n : ℕ) : Type 0 where
  pub some : 0 < n
  pub bad : IsLawfulText plan (front n bytes) → ⊥
  pub good : (k : ℕ) → k < n → IsLawfulText plan (front k bytes)
