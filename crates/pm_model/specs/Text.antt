-- The text of a plan's lines, in order (this project's own).
use Rattle.std.specs.Prelude.{ℕ, ◌≡◌, ◌≤◌, Bool, true, false, List, ◌++◌, map, nat_eq, if◌then◌else◌}
use Rattle.pm_model.specs.declared.event.Line.{Line}
use Rattle.pm_model.specs.declared.plan.Plan.{Plan}
use Rattle.pm_model.specs.LineOf.{is_line_of}
use Rattle.pm_model.specs.Spelling.{Names, header, line_text, line_text2, lines_text, lines_text2}

-- the names of a plan's devices and callers
abbrev pub names_of : Plan → Names
names_of plan = record { devices = map (λ row. row.name) plan.devices; callers = map (λ row. row.name) plan.callers }

-- the text of a plan's lines in order, in format 1 and in format 2, and in the plan's own
abbrev pub text1 : Plan → List Line → List ℕ
text1 plan lines = lines_text (names_of plan) lines

abbrev pub text2 : Plan → List Line → List ℕ
text2 plan lines = header ++ lines_text2 (names_of plan) 0 lines

abbrev pub text : Plan → List Line → List ℕ
text plan lines = if nat_eq plan.trace 2 then text2 plan lines else text1 plan lines

-- the line is one of the plan, and the bytes are its text in format 1
abbrev pub IsTextOf : Plan → Line → List ℕ → Type 0
IsTextOf plan line bytes = (is_line_of plan line ≡ true) × (line_text (names_of plan) line ≡ bytes)

-- the line is one of the plan and no earlier than base, and the bytes are its text in format 2 behind a line of
-- that time
abbrev pub IsText2Of : Plan → ℕ → Line → List ℕ → Type 0
IsText2Of plan base line bytes = (is_line_of plan line ≡ true) × (base ≤ line.time) × (line_text2 (names_of plan) base line ≡ bytes)

-- the bytes are the text of the line behind a line of that time, in format 2 where that is true and else in format 1
abbrev pub IsTextBehind : Bool → Plan → ℕ → Line → List ℕ → Type 0
IsTextBehind true plan base line bytes = IsText2Of plan base line bytes
IsTextBehind false plan base line bytes = IsTextOf plan line bytes
