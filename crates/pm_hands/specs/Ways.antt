-- Which island a hand goes to (this project's own).
use Rattle.std.specs.Prelude.{ℕ, ◌+◌, ◌%◌, Option, Some, None, nat_lt, if◌then◌else◌}

-- the island that a hint names, where there is one of so many, or the one behind this one, in turn
abbrev pub next_island : Option ℕ → ℕ → ℕ → ℕ
next_island (Some hint) at count = if nat_lt hint count then hint else (at + 1) % count
next_island None at count = (at + 1) % count
