use Rattle.std.proofs.Common.{◌≡◌, ◌++◌, true, drop, length, map}
use Rattle.std.specs.List.{list_all}
use Rattle.pm_planread.specs.tree.Places.{first_fault}
use Rattle.pm_planread.specs.Scripts.{are_commands, bad_command, caller_row}
use Rattle.pm_planread.proofs.scripts.callers_in.Given as goal

abbrev pub invariant-loop-i : goal.invariant-loop-i
invariant-loop-i l = record {
  rows : l.made.items ++ map (caller_row (map (λ row. row.name) l.devices)) (drop l.i l.rows) ≡ map (caller_row (map (λ row. row.name) l.devices)) l.rows;
  valid : list_all (are_commands (length l.devices)) l.made.items ≡ true;
  first : first_fault (bad_command (map (λ row. row.name) l.devices)) l.i (drop l.i l.rows) ≡ first_fault (bad_command (map (λ row. row.name) l.devices)) 0 l.rows;
}
