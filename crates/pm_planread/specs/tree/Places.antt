-- Where in a plan a refusal is, and the first of several (this project's own).
use Rattle.std.specs.Prelude.{ℕ, ◌+◌, min, Bool, List, [], ◌∷◌, Option, Some, None, if◌then◌else◌}
use Rattle.std.specs.Option.{option_or}
use Rattle.pm_planread.specs.declared.tree.place.Place.{Place}
use Rattle.pm_planread.specs.declared.tree.place.Section.{Section}

-- a count stands still at the end of its type, which no text of a megabyte reaches
abbrev pub capped : ℕ → ℕ
capped n = min n 4294967295

abbrev pub place : Section → ℕ → ℕ → Place
place section item part = record { section = section; item = capped item; part = capped part }

-- the place of the first that passes, counted on from a number
abbrev pub first_place : {A : Type 0} → (A → Bool) → ℕ → List A → Option ℕ
first_place test at [] = None
first_place test at (x ∷ xs) = if test x then Some at else first_place test (at + 1) xs

-- the first fault of items that are counted on from a number
abbrev pub first_fault : {A : Type 0} → (ℕ → A → Option Place) → ℕ → List A → Option Place
first_fault fault_of i [] = None
first_fault fault_of i (x ∷ xs) = option_or (fault_of i x) (first_fault fault_of (i + 1) xs)
