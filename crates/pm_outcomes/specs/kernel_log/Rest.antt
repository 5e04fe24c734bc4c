-- What the rest of a log tells, where one is left (this project's own).
use Rattle.std.specs.Prelude.{ℕ, ◌≡◌, ◌++◌, List, Option, reverse}
use Rattle.std.specs.List.{filter_map}
use Rattle.pm_model.specs.declared.plan.Plan.{Plan}
use Rattle.pm_outcomes.specs.declared.kernel_log.reading.Read.{Read}
use Rattle.pm_outcomes.specs.declared.kernel_log.tells.Told.{Told}
use Rattle.pm_outcomes.specs.kernel_log.Lines.{lines_in}
use Rattle.pm_outcomes.specs.kernel_log.Runs.{IsReadOf}
use Rattle.pm_outcomes.specs.kernel_log.Tells.{told_line, told_lines}

abbrev pub told_rest : Plan → Option (List ℕ) → List Told
told_rest plan rest = filter_map (told_line plan) (lines_in rest)

-- so far it was read of a log, and this is left
pub record IsReadTo (plan : Plan) (log : List ℕ) (rest : Option (List ℕ)) (read : Read) : Type 0 where
  pub before : List Told
  pub split : told_lines plan log ≡ before ++ told_rest plan rest
  pub is_read : IsReadOf (reverse before) read
