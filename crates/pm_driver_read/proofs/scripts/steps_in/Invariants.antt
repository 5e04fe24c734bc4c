use Rattle.std.proofs.Common.{◌≡◌, drop, length, map}
use Rattle.pm_driver_read.proofs.RowLemmas.{behind}
use Rattle.pm_driver_read.specs.Programs.{steps_from}
use Rattle.pm_driver_script.specs.Fits.{HasFewExits}
use Rattle.pm_driver_read.proofs.scripts.steps_in.Given as goal

abbrev pub invariant-loop-number : goal.invariant-loop-number
invariant-loop-number l = record {
  rest : steps_from (map (λ row. row.name) l.devices) l.caller 0 l.texts ≡ behind l.steps.items (steps_from (map (λ row. row.name) l.devices) l.caller l.number (drop l.number l.texts));
  exits : HasFewExits l.steps.items;
  len : length l.steps.items ≡ l.number;
}
