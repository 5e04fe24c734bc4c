-- Whether `orders` found anything, or a limit came first (this project's own).
use Rattle.std.specs.Prelude.{Bool, if◌then◌else◌}
use Rattle.pm_cmd_lab.specs.declared.ends.ending.Outcome.{Outcome}
use Rattle.pm_cmd_lab.specs.declared.ends.ending.Outcome.TheVariants as outcome
use Rattle.pm_outcomes.specs.declared.text.reach.Reach.{Reach}
use Rattle.pm_outcomes.specs.declared.text.reach.Reach.TheVariants.{All, Limit, Within}

-- something is found where a command or a device has more than one observation
abbrev pub outcome_of_schedules : Reach → Bool → Outcome
outcome_of_schedules All differs = if differs then outcome.Found else outcome.Done
outcome_of_schedules (Within k) differs = if differs then outcome.Found else outcome.Done
outcome_of_schedules (Limit k) differs = outcome.AtLimit
