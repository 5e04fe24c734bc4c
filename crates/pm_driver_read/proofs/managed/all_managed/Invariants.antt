use Rattle.std.proofs.Common.{◌≡◌, ◌++◌, drop}
use Rattle.pm_driver_read.specs.Managed.{all_managed}
use Rattle.pm_driver_read.proofs.managed.all_managed.Given as goal

abbrev pub invariant-loop-number : goal.invariant-loop-number
invariant-loop-number l = l.managed.items ++ all_managed l.number (drop l.number l.scripts) ≡ all_managed 0 l.scripts
