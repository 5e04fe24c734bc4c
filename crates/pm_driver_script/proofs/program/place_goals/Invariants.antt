use Rattle.std.proofs.Common.{◌≡◌, ◌++◌, drop, map}
use Rattle.pm_driver_script.specs.Programs.{goal_number}
use Rattle.pm_driver_script.proofs.program.place_goals.Given as goal

abbrev pub invariant-loop-goal : goal.invariant-loop-goal
invariant-loop-goal l = l.made.items ++ map (goal_number l.script.steps.now l.script.turns l.numbered.places.items l.numbered.ends.items l.turn l.past) (drop l.goal-index l.goals) ≡ map (goal_number l.script.steps.now l.script.turns l.numbered.places.items l.numbered.ends.items l.turn l.past) l.goals
