use Rattle.std.proofs.Common.{◌≡◌, ◌++◌, drop, map}
use Rattle.pm_driver_script.specs.Programs.{place_exit}
use Rattle.pm_driver_script.proofs.program.place_exits.Given as goal

abbrev pub invariant-loop-exit : goal.invariant-loop-exit
invariant-loop-exit l = l.made.items ++ map (place_exit l.script.steps.now l.script.turns l.numbered.places.items l.numbered.ends.items l.turn l.past) (drop l.exit-index l.exits) ≡ map (place_exit l.script.steps.now l.script.turns l.numbered.places.items l.numbered.ends.items l.turn l.past) l.exits
