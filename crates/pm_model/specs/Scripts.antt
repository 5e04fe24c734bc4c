-- A script that becomes longer (this project's own).
use Rattle.std.specs.Prelude.{ℕ, zero, suc, ◌++◌, List, [], ◌∷◌}
use Rattle.pm_model.specs.declared.event.Command.{Command}
use Rattle.pm_model.specs.declared.rows.CallerRow.{CallerRow}

-- a command more at the end of a caller's script
abbrev pub longer : Command → CallerRow → CallerRow
longer command row = record row { script = row.script ++ command ∷ [] }

-- the same at the end of this caller's script
abbrev pub with_command : Command → ℕ → List CallerRow → List CallerRow
with_command command c [] = []
with_command command zero (row ∷ rows) = longer command row ∷ rows
with_command command (suc c) (row ∷ rows) = row ∷ with_command command c rows
