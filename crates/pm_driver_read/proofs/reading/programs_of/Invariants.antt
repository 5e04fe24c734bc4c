use Rattle.std.proofs.Common.{◌≡◌, All, length}
use Rattle.pm_driver_read.proofs.ProgramLemmas.{behind}
use Rattle.pm_driver_read.specs.Programs.{AreFewSteps, programs_from}
use Rattle.std.specs.Vec.Iter.{into_iter_items}
use Rattle.pm_driver_read.proofs.reading.programs_of.Given as goal

abbrev pub invariant-loop-caller : goal.invariant-loop-caller
invariant-loop-caller l = record {
  rest : programs_from l.names l.managed 0 l.fn.scripts.items ≡ behind l.programs.items (programs_from l.names l.managed (length l.programs.items) (into_iter_items l.caller-iterator));
  few : All AreFewSteps (into_iter_items l.caller-iterator);
}
