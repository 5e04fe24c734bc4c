-- The program of a plan's script, which runs straight on (this project's own).
use Rattle.std.specs.Prelude.{ℕ, ◌+◌, false, List, [], ◌∷◌, Option, Some, None, length, map}
use Rattle.pm_model.specs.declared.event.Command.{Command}
use Rattle.std.specs.List.{range_with_len}
use Rattle.pm_driver_read.specs.declared.reading.LocatedProgram.{LocatedProgram}
use Rattle.pm_driver_script.specs.declared.calls.Guard.TheVariants as guard
use Rattle.pm_driver_script.specs.declared.goals.Goal.TheVariants as goal
use Rattle.pm_driver_script.specs.declared.marks.Past.{Past}
use Rattle.pm_driver_script.specs.declared.places.Standing.{Standing}
use Rattle.pm_driver_script.specs.declared.program.ProgramPlace.{ProgramPlace}

abbrev pub no_past : Past
no_past = record { marks = 0; locks = 0; stopped = 0 }

abbrev pub straight_place : ℕ → Command → ProgramPlace
straight_place number command = record {
  standing = record { turn = 0; goal = goal.At number 0; past = no_past };
  command = command;
  asks = None;
  guard = guard.Open;
  touches = None;
  reads = false;
  exits = [];
  otherwise = (number + 1) ∷ [];
}

-- each command is a place, and goes on at the next
abbrev pub straight_from : ℕ → List Command → List ProgramPlace
straight_from number [] = []
straight_from number (command ∷ commands) = straight_place number command ∷ straight_from (number + 1) commands

abbrev pub straight_end : Standing
straight_end = record { turn = 0; goal = goal.Returned; past = no_past }

abbrev pub straight_lines : ℕ → List (Option ℕ)
straight_lines count = map Some (range_with_len 0 count)

abbrev pub straight : List Command → LocatedProgram
straight commands = record { program = record { places = straight_from 0 commands; ends = straight_end ∷ [] }; lines = straight_lines (length commands) }
