-- Expectations over a plan: the devices and callers that they name are the plan's (this project's own).
use Rattle.std.specs.Prelude.{⊤, ◌<◌, All, length}
use Rattle.pm_base.specs.declared.DevId.{DevId}
use Rattle.pm_model.specs.declared.plan.Plan.{Plan}
use Rattle.pm_expect.specs.declared.expectation.Answer.{Answer}
use Rattle.pm_expect.specs.declared.expectation.End.{End}
use Rattle.pm_expect.specs.declared.expectation.Expectations.{Expectations}
use Rattle.pm_expect.specs.declared.expectation.Use.{Use}

abbrev pub IsAnswerOver : Plan → Answer → Type 0
IsAnswerOver plan a = ⊤

abbrev pub IsEndOver : Plan → End → Type 0
IsEndOver plan e = let d : DevId = e.dev in d.0 < length plan.devices

abbrev pub IsUseOver : Plan → Use → Type 0
IsUseOver plan u = (let d : DevId = u.dev in d.0 < length plan.devices) × (u.caller < length plan.callers)

pub record AreOver (plan : Plan) (all : Expectations) : Type 0 where
  pub ends : All (IsEndOver plan) all.ends
  pub uses : All (IsUseOver plan) all.uses
