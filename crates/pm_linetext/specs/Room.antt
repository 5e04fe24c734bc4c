-- Room in the text of one line.
use Rattle.std.specs.Prelude.{ℕ, ◌+◌, ◌≤◌, List, length}
use Rattle.pm_base.specs.declared.limits.TheConstants.{TEXT_BYTES}

-- the piece fits behind what is spelled of the line and its newline
abbrev pub HasRoom : List ℕ → List ℕ → Type 0
HasRoom spelled piece = length spelled + length piece ≤ TEXT_BYTES + 1
