-- What a desk shows (this project's own).
use Rattle.std.specs.Prelude.{Bool, List}
use Rattle.pm_model.specs.declared.plan.Plan.{Plan}

-- the plan with every script empty, and for each caller whether its pass was given
pub record Counter : Type 0 where
  pub plan : Plan
  pub given : List Bool
