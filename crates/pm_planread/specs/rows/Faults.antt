-- The fault of a plan's item (this project's own).
use Rattle.std.specs.Prelude.{ℕ, Bool, Option, Some, None, if◌then◌else◌}
use Rattle.pm_planread.specs.tree.Places.{place}
use Rattle.pm_planread.specs.declared.tree.place.Place.{Place}
use Rattle.pm_planread.specs.declared.tree.place.Section.{Section}

-- the item, where something is wrong with it
abbrev pub fault_if : Section → ℕ → Bool → Option Place
fault_if section i wrong = if wrong then Some (place section i 0) else None
