use Rattle.std.proofs.Common.{◌≡◌, ◌-◌}
use Rattle.pm_driver_script.specs.Programs.{closed, standings_of}
use Rattle.pm_driver_script.proofs.program.closed.Given as goal

abbrev pub invariant-loop-at : goal.invariant-loop-at
invariant-loop-at l = closed l.script.steps.now l.script.names.now l.script.turns (1000 - l.at) l.at l.found.items ≡ standings_of l.script.steps.now l.script.names.now l.script.turns
