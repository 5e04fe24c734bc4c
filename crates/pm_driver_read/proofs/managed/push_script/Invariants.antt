use Rattle.std.proofs.Common.{◌≡◌, ◌++◌, drop}
use Rattle.pm_driver_read.specs.Managed.{managed_from}
use Rattle.pm_driver_read.proofs.managed.push_script.Given as goal

abbrev pub invariant-loop-number : goal.invariant-loop-number
invariant-loop-number l = l.managed.items ++ managed_from l.caller l.dev l.number (drop l.number l.steps) ≡ l.fn.managed.items ++ managed_from l.caller l.dev 0 l.steps
