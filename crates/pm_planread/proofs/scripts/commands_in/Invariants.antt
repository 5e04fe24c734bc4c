use Rattle.std.proofs.Common.{◌≡◌, ◌++◌, true, drop, length, map}
use Rattle.std.specs.List.{list_all}
use Rattle.pm_model.specs.IsPlan.{is_command}
use Rattle.pm_planread.specs.tree.Places.{first_place}
use Rattle.pm_planread.specs.Scripts.{commands_in, is_no_command}
use Rattle.pm_planread.proofs.scripts.commands_in.Given as goal

abbrev pub invariant-loop-i : goal.invariant-loop-i
invariant-loop-i l = record {
  rest : l.commands.items ++ commands_in (map (λ row. row.name) l.devices) (drop l.i l.texts) ≡ commands_in (map (λ row. row.name) l.devices) l.texts;
  valid : list_all (is_command (length l.devices)) l.commands.items ≡ true;
  first : first_place (is_no_command (map (λ row. row.name) l.devices)) l.i (drop l.i l.texts) ≡ first_place (is_no_command (map (λ row. row.name) l.devices)) 0 l.texts;
}
