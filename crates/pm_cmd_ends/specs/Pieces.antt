-- The pieces in which the text of a plan's lines is written, in either format (this project's own): in format 2 the header,
-- and then each line with its newline.
use Rattle.std.specs.Prelude.{ℕ, ◌≤◌, List, [], ◌∷◌, ◌++◌, nat_eq, if◌then◌else◌}
use Rattle.pm_model.specs.declared.event.Line.{Line}
use Rattle.pm_model.specs.declared.plan.Plan.{Plan}
use Rattle.pm_model.specs.Spelling.{header, line_text, line_text2, newline}
use Rattle.pm_model.specs.Text.{names_of, text1, text2}
use Rattle.pm_cmd_ends.specs.declared.output.Format.{Format}
use Rattle.pm_cmd_ends.specs.declared.output.Format.TheVariants.{One, Two}

-- the format of the plan's trace
abbrev pub format_of : Plan → Format
format_of plan = if nat_eq plan.trace 2 then Two else One

-- the text of lines in order
abbrev pub text_in : Format → Plan → List Line → List ℕ
text_in One plan lines = text1 plan lines
text_in Two plan lines = text2 plan lines

abbrev pub header_piece : Format → List ℕ
header_piece One = []
header_piece Two = header

-- a line behind a line of that time, with its newline
abbrev pub line_piece : Format → Plan → ℕ → Line → List ℕ
line_piece One plan base line = line_text (names_of plan) line ++ newline
line_piece Two plan base line = line_text2 (names_of plan) base line ++ newline

-- lines in order behind a line of that time
abbrev pub line_pieces : Format → Plan → ℕ → List Line → List ℕ
line_pieces format plan base [] = []
line_pieces format plan base (line ∷ lines) = line_piece format plan base line ++ line_pieces format plan line.time lines

-- the time of the last line, where they stand behind a line of that time
abbrev pub time_behind : ℕ → List Line → ℕ
time_behind base [] = base
time_behind base (line ∷ lines) = time_behind line.time lines

-- no line is earlier than the one before it
abbrev pub AreInTime : ℕ → List Line → Type 0
AreInTime base [] = Unit {0}
AreInTime base (line ∷ lines) = (base ≤ line.time) × AreInTime line.time lines
