use Rattle.std.proofs.Common.{◌≡◌, drop}
use Rattle.pm_driver_script.specs.Places.{with_goals}
use Rattle.pm_driver_script.proofs.places.push_all.Given as goal

abbrev pub invariant-loop-goal : goal.invariant-loop-goal
invariant-loop-goal l = with_goals l.steps l.turns l.turn l.past l.found.items (drop l.goal-index l.goals) ≡ with_goals l.steps l.turns l.turn l.past l.initial.found.items l.goals
