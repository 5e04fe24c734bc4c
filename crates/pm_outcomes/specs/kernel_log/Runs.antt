-- The outcome of the last run that a log tells of (this project's own).
use Rattle.std.specs.Prelude.{ℕ, ◌≡◌, List, [], ◌∷◌, Option, Some, None, option_map, reverse}
use Rattle.pm_outcomes.specs.declared.kernel_log.reading.Read.{Read}
use Rattle.pm_model.specs.declared.plan.Plan.{Plan}
use Rattle.pm_outcomes.specs.declared.kernel_log.tells.Tell.{Tell}
use Rattle.pm_outcomes.specs.declared.kernel_log.tells.Told.{Told}
use Rattle.pm_outcomes.specs.declared.kernel_log.tells.Told.TheVariants as told
use Rattle.pm_outcomes.specs.kernel_log.Tells.{told_lines}

-- What was told since the last `done`, the newest first. The list has the newest first.
abbrev pub since_done : List Told → List Tell
since_done [] = []
since_done (told.Done ∷ before) = []
since_done (told.Tells t ∷ before) = t ∷ since_done before

-- what was told between the last `done` and the one before it, the newest first; none where there is no `done`
abbrev pub last_run : List Told → Option (List Tell)
last_run [] = None
last_run (told.Done ∷ before) = Some (since_done before)
last_run (told.Tells t ∷ before) = last_run before

-- the outcome of the last run that a log tells of, the newest first
abbrev pub outcome_of : Plan → List ℕ → Option (List Tell)
outcome_of plan log = last_run (reverse (told_lines plan log))

-- what was read of lines that tell this, the newest first
pub record IsReadOf (ts : List Told) (read : Read) : Type 0 where
  pub since : reverse read.since.items ≡ since_done ts
  pub last : option_map (λ tells. reverse tells.items) read.last ≡ last_run ts
