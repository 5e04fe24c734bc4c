use Rattle.std.proofs.Common.{◌≡◌, All, drop, length}
use Rattle.pm_driver_read.proofs.CallerLemmas.{behind}
use Rattle.pm_driver_read.specs.Programs.{AreFewSteps, scripts_from}
use Rattle.pm_driver_read.proofs.scripts.scripts_in.Given as goal

abbrev pub invariant-loop-number : goal.invariant-loop-number
invariant-loop-number l = record {
  rest : scripts_from l.plan.devices l.plan.links 0 l.callers ≡ behind l.scripts.items (scripts_from l.plan.devices l.plan.links l.number (drop l.number l.callers));
  fits : All AreFewSteps l.scripts.items;
  len : length l.scripts.items ≡ l.number;
}
