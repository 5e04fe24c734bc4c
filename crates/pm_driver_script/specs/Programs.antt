-- A caller's program: the places at which it may stand, what it calls there, and where it goes on (this project's own).
use Rattle.std.specs.Prelude.{ℕ, zero, suc, ◌+◌, Bool, not, List, [], ◌∷◌, Option, Some, None, drop, filter, length, map, nat_eq, nat_lt, option_map, slice_get, unwrap_or, if◌then◌else◌}
use Rattle.std.specs.List.{filter_map}
use Rattle.std.specs.Option.{option_map_or}
use Rattle.pm_driver_script.specs.Calls.{asks_at, command_at, guard_at, touched_by}
use Rattle.pm_driver_script.specs.Marks.{passed}
use Rattle.pm_driver_script.specs.Places.{goals_at, is_end, place_of, settled, start_of, with_goals}
use Rattle.pm_driver_script.specs.Ways.{exits_at, otherwise_at}
use Rattle.pm_driver_script.specs.declared.goals.Goal.{Goal}
use Rattle.pm_driver_script.specs.declared.goals.Goal.TheVariants as goal
use Rattle.pm_driver_script.specs.declared.marks.Past.{Past}
use Rattle.pm_driver_script.specs.declared.names.ScriptNames.{ScriptNames}
use Rattle.pm_driver_script.specs.declared.places.Standing.{Standing}
use Rattle.pm_driver_script.specs.declared.program.PlaceExit.{PlaceExit}
use Rattle.pm_driver_script.specs.declared.program.Program.{Program}
use Rattle.pm_driver_script.specs.declared.program.ProgramPlace.{ProgramPlace}
use Rattle.pm_driver_script.specs.declared.ways.GoalExit.{GoalExit}
use Rattle.pm_driver_text.specs.declared.steps.ScriptStep.{ScriptStep}

-- the places that follow a part of the first of these steps, of which the caller has come so far before
abbrev pub followed_from : List ScriptStep → ScriptNames → ℕ → List Standing → Standing → ℕ → ℕ → List ScriptStep → List Standing
followed_from steps names turns found s number part [] = found
followed_from steps names turns found s number part (step ∷ behind) =
    with_goals steps turns s.turn (passed names step.what part s.past) found (goals_at names step number behind part)

abbrev pub followed_at : List ScriptStep → ScriptNames → ℕ → List Standing → Standing → Goal → List Standing
followed_at steps names turns found s (goal.At number part) = followed_from steps names turns found s number part (drop number steps)
followed_at steps names turns found s g = found

abbrev pub followed_by : List ScriptStep → ScriptNames → ℕ → List Standing → Standing → List Standing
followed_by steps names turns found s = followed_at steps names turns found s s.goal

-- found places, and those that follow the ones from a place on, of which so many may be looked at; nothing where more are left
unfoldable pub closed : List ScriptStep → ScriptNames → ℕ → ℕ → ℕ → List Standing → Option (List Standing)
closed steps names turns zero at found = if nat_lt at (length found) then None else Some found
closed steps names turns (suc n) at found =
    option_map_or (λ s. closed steps names turns n (at + 1) (followed_by steps names turns found s)) (slice_get found at) (Some found)

abbrev pub standings_of : List ScriptStep → ScriptNames → ℕ → Option (List Standing)
standings_of steps names turns = closed steps names turns 1000 0 (start_of steps ∷ [])

abbrev pub is_place : Standing → Bool
is_place s = not (is_end s.goal)

-- the number of a standing: of the places, and behind them of the ends
abbrev pub to_of : List Standing → List Standing → Standing → ℕ
to_of places ends s = unwrap_or (place_of s places) (length places + unwrap_or (place_of s ends) 0)

unfoldable pub goal_number : List ScriptStep → ℕ → List Standing → List Standing → ℕ → Past → Goal → ℕ
goal_number steps turns places ends turn past g = to_of places ends (settled steps turns turn g past)

abbrev pub place_exit : List ScriptStep → ℕ → List Standing → List Standing → ℕ → Past → GoalExit → PlaceExit
place_exit steps turns places ends turn past exit = record { test = exit.test; to = goal_number steps turns places ends turn past exit.goal }

-- the row of a place at a part of the first of these steps
abbrev pub row_from : List ScriptStep → ScriptNames → ℕ → List Standing → List Standing → Standing → ℕ → ℕ → List ScriptStep → Option ProgramPlace
row_from steps names turns places ends s number part [] = None
row_from steps names turns places ends s number part (step ∷ behind) =
    let past = passed names step.what part s.past in
    Some (record {
      standing = s;
      command = command_at names step.what part;
      asks = asks_at names step.what part;
      guard = guard_at names step.what part;
      touches = touched_by step.what;
      reads = not (nat_eq (length step.exits) 0);
      exits = map (place_exit steps turns places ends s.turn past) (exits_at names step number behind part);
      otherwise = map (goal_number steps turns places ends s.turn past) (otherwise_at step number behind part);
    })

abbrev pub row_at : List ScriptStep → ScriptNames → ℕ → List Standing → List Standing → Standing → Goal → Option ProgramPlace
row_at steps names turns places ends s (goal.At number part) = row_from steps names turns places ends s number part (drop number steps)
row_at steps names turns places ends s g = None

abbrev pub row_of : List ScriptStep → ScriptNames → ℕ → List Standing → List Standing → Standing → Option ProgramPlace
row_of steps names turns places ends s = row_at steps names turns places ends s s.goal

abbrev pub program_in : List ScriptStep → ScriptNames → ℕ → List Standing → Program
program_in steps names turns found =
    let places = filter is_place found in
    let ends = filter (λ s. is_end s.goal) found in
    record { places = filter_map (row_of steps names turns places ends) places; ends = ends }

-- the program of a script that its caller runs so often; nothing where it has more than 1,000 places and ends
abbrev pub program_of : List ScriptStep → ScriptNames → ℕ → Option Program
program_of steps names turns = option_map (program_in steps names turns) (standings_of steps names turns)
