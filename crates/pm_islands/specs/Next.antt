-- Which of several lists gives the next line of their merge (this project's own).
use Rattle.std.specs.Prelude.{ℕ, suc, List, [], ◌∷◌, Option, Some, None, All, nat_lt, option_map, reverse, if◌then◌else◌}
use Rattle.pm_model.specs.declared.event.Line.{Line}
use Rattle.pm_laws.specs.islands.Apart.{IsInTime}

-- a list with its first line at this time stands before lists of which the place and the time of the next are known
abbrev pub earlier : ℕ → Option (ℕ × ℕ) → ℕ × ℕ
earlier time None = (0, time)
earlier time (Some (place, other)) = if nat_lt other time then (suc place, other) else (0, time)

-- the place where one more list stands before
abbrev pub moved : Option (ℕ × ℕ) → Option (ℕ × ℕ)
moved o = option_map (λ p. (suc p.0, p.1)) o

-- the place of the first list whose first line is the earliest, and that line's time; none where all lists are empty
abbrev pub next : List (List Line) → Option (ℕ × ℕ)
next [] = None
next ([] ∷ lists) = moved (next lists)
next ((line ∷ lines) ∷ lists) = Some (earlier line.time (next lists))

-- in each list, which is in order, times don't fall
abbrev pub AreInTime : List (List Line) → Type 0
AreInTime lists = All (λ lines. IsInTime (reverse lines)) lists
