-- Which callbacks run, and until when (this project's own).
use Rattle.std.specs.Prelude.{◌+◌, ℕ, Bool, false, Option, Some, None, is_some}
use Rattle.std.specs.Option.{option_and_then}
use Rattle.pm_base.specs.declared.ActorId.{ActorId}
use Rattle.pm_base.specs.declared.Cb.TheVariants as cb
use Rattle.pm_model.specs.declared.plan.Plan.{Plan}
use Rattle.pm_model.specs.declared.stage.IdleStage.TheVariants as idle
use Rattle.pm_model.specs.declared.stage.ResumeStage.TheVariants as resume
use Rattle.pm_model.specs.declared.stage.Stage.{Stage}
use Rattle.pm_model.specs.declared.stage.Stage.TheVariants as stage
use Rattle.pm_model.specs.declared.stage.SuspendStage.TheVariants as suspend
use Rattle.pm_model.specs.PlanRows.{ms_of}
use Rattle.pm_model.specs.World.{World, stage_at}

-- when the callback that runs at a stage ends
abbrev pub running_due : Plan → Stage → Option ℕ
running_due plan (stage.Idle (idle.Running d f since)) = Some (since + ms_of plan cb.Idle d)
running_due plan (stage.Suspend (suspend.Running d f since)) = Some (since + ms_of plan cb.Suspend d)
running_due plan (stage.Resume (resume.Running r since)) = Some (since + ms_of plan cb.Resume r.dev)
running_due plan _ = None

abbrev pub runs_at : Plan → Option Stage → Bool
runs_at plan (Some s) = is_some (running_due plan s)
runs_at plan None = false

-- a callback that an actor began runs
abbrev pub is_running : Plan → World → ActorId → Bool
is_running plan w actor = runs_at plan (stage_at plan w actor)

-- when the callback ends that an actor began, if one runs
abbrev pub end_due : Plan → World → ActorId → Option ℕ
end_due plan w actor = option_and_then (running_due plan) (stage_at plan w actor)
