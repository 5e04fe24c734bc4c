-- The text of times (this project's own).
use Rattle.std.specs.Prelude.{ℕ, ◌+◌, List, [], ◌∷◌, ◌++◌, codes, decimal}
use Rattle.pm_model.specs.Spelling.{Names, device_name, newline}
use Rattle.pm_account.specs.declared.Times.{Times}

-- the line of a device with this name
abbrev pub times_line : List ℕ → Times → List ℕ
times_line name x = name ++ codes " active " ++ decimal x.active ++ codes " suspended " ++ decimal x.suspended ++ codes " moving " ++ decimal x.moving ++ newline

-- one line per device, from this one on
abbrev pub lines_from : Names → ℕ → List Times → List ℕ
lines_from names d [] = []
lines_from names d (x ∷ account) = times_line (device_name names d) x ++ lines_from names (d + 1) account

-- one line per device, in the order of the plan
abbrev pub account_text : Names → List Times → List ℕ
account_text names account = lines_from names 0 account
