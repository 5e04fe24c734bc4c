use Rattle.std.proofs.Common.{◌≡◌, ◌++◌, drop, map}
use Rattle.pm_driver_read.specs.Drivers.{plain_of}
use Rattle.pm_driver_read.proofs.read.plain_callers.Given as goal

abbrev pub invariant-loop-row : goal.invariant-loop-row
invariant-loop-row l = l.made.items ++ map plain_of (drop l.row-index l.rows) ≡ map plain_of l.rows
