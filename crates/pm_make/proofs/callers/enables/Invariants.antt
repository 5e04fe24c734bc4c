use Rattle.std.proofs.Common.{◌≡◌}
use Rattle.pm_make.specs.Generator.{enables}
use Rattle.pm_make.proofs.callers.enables.Given as goal

abbrev pub invariant-loop-dev : goal.invariant-loop-dev
invariant-loop-dev l = l.commands.items ≡ enables l.dev l.place
