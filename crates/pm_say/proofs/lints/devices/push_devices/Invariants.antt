use Rattle.std.proofs.Common.{◌≡◌, ◌++◌}
use Rattle.pm_say.proofs.lints.RowLemmas.{said_from}
use Rattle.pm_say.specs.lints.Warnings.{of_rows, of_device}
use Rattle.pm_say.proofs.lints.devices.push_devices.Given as goal

-- what is said so far, and what is left to say of the rows
abbrev pub invariant-loop-device : goal.invariant-loop-device
invariant-loop-device l = l.out.items ++ said_from (of_device l.plan) l.device l.plan.devices ≡ l.fn.out.items ++ of_rows (of_device l.plan) l.plan.devices
