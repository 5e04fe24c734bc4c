use Rattle.std.proofs.Common.{length}
use Rattle.pm_driver_script.proofs.goals.+goal_from.Given as goal

abbrev pub decreases-goal_from : goal.decreases-goal_from
decreases-goal_from l = length l.steps.now
