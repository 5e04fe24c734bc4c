use Rattle.std.proofs.Common.{◌≡◌, ◌++◌, ◌∷◌, drop, map}
use Rattle.pm_driver_script.specs.Ways.{label_goal, next_goal}
use Rattle.pm_driver_script.proofs.ways.choices.Given as goal

abbrev pub invariant-loop-exit : goal.invariant-loop-exit
invariant-loop-exit l = l.made.items ++ map (label_goal l.number l.behind) (drop l.exit-index l.exits) ≡ next_goal l.number l.behind ∷ map (label_goal l.number l.behind) l.exits
