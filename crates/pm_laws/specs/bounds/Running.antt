-- The stages at which a callback runs (this project's own).
use Rattle.std.specs.Prelude.{Bool, true, false}
use Rattle.pm_model.specs.declared.stage.IdleStage.TheVariants as idle
use Rattle.pm_model.specs.declared.stage.ResumeStage.TheVariants as resume
use Rattle.pm_model.specs.declared.stage.Stage.{Stage}
use Rattle.pm_model.specs.declared.stage.Stage.TheVariants as stage
use Rattle.pm_model.specs.declared.stage.SuspendStage.TheVariants as suspend

-- a callback has begun at the stage, and its end is the line that comes there
abbrev pub runs_callback : Stage → Bool
runs_callback (stage.Idle (idle.Running d f since)) = true
runs_callback (stage.Suspend (suspend.Running d f since)) = true
runs_callback (stage.Resume (resume.Running r since)) = true
runs_callback _ = false
