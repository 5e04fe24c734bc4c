use Rattle.std.proofs.Common.{◌≡◌, ◌++◌, drop}
use Rattle.pm_driver_read.specs.Plans.{commands_of}
use Rattle.pm_driver_read.proofs.plans.commands_of.Given as goal

abbrev pub invariant-loop-place : goal.invariant-loop-place
invariant-loop-place l = l.commands.items ++ commands_of (drop l.place-index l.places) ≡ commands_of l.places
