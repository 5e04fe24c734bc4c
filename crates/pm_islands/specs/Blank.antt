-- A plan without commands (this project's own).
use Rattle.pm_model.specs.declared.plan.Plan.{Plan}
use Rattle.pm_model.specs.Islands.{IsPart}

-- the plan with every script empty: the part of an island that no caller is of
abbrev pub IsBlank : Plan → Plan → Type 0
IsBlank plan empty = IsPart plan (λ node. 1) 0 empty
