use Rattle.std.proofs.Common.{◌≡◌, ◌++◌, drop, map}
use Rattle.pm_driver_script.proofs.places.push_goals.Given as goal

abbrev pub invariant-loop-exit : goal.invariant-loop-exit
invariant-loop-exit l = l.goals.items ++ map (λ exit. exit.goal) (drop l.exit-index l.exits) ≡ l.initial.goals.items ++ map (λ exit. exit.goal) l.exits
