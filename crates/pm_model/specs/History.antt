-- Lists of lines with the newest line first, and how a sentence goes over all lines (this project's own). A test of a line
-- also sees the lines before it.
use Rattle.std.specs.Prelude.{Bool, true, false, not, ◌&&◌, ◌||◌, List, [], ◌∷◌, Option, Some, None}
use Rattle.pm_model.specs.declared.event.Event.{Event}
use Rattle.pm_model.specs.declared.event.Line.{Line}

abbrev pub History : Type 0
History = List Line

-- a test of a line's event alone
abbrev pub of_event : {A : Type 0} → (Event → A) → History → Line → A
of_event test h line = test line.event

-- the test holds of each line
abbrev pub at_each_line : (History → Line → Bool) → History → Bool
at_each_line test [] = true
at_each_line test (line ∷ h) = test h line && at_each_line test h

-- the test holds after every prefix of the list
abbrev pub throughout : (History → Bool) → History → Bool
throughout test [] = test []
throughout test (line ∷ h) = test (line ∷ h) && throughout test h

-- some line passes the first test, and from that line on, itself included, none passes the second
abbrev pub lasts : (History → Line → Bool) → (History → Line → Bool) → History → Bool
lasts from until [] = false
lasts from until (line ∷ h) = not (until h line) && (from h line || lasts from until h)

-- what the last line that says anything says, or a default
abbrev pub last_said : {A : Type 0} → (History → Line → Option A) → A → History → A
last_said says default [] = default
last_said says default (line ∷ h) = elim (says h line) [ Some x ↦ x | None ↦ last_said says default h ]
