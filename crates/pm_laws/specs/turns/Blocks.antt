-- Which stage waits for its device (this project's own).
use Rattle.std.specs.Prelude.{Bool, false}
use Rattle.pm_model.specs.declared.stage.ControlStage.TheVariants as control
use Rattle.pm_model.specs.declared.stage.ResumeStage.TheVariants as resume
use Rattle.pm_model.specs.declared.stage.Stage.{Stage}
use Rattle.pm_model.specs.declared.stage.Stage.TheVariants as stage
use Rattle.pm_model.specs.declared.stage.SuspendStage.TheVariants as suspend
use Rattle.pm_model.specs.Derived.{busy, is_moving}
use Rattle.pm_model.specs.Views.{Views}

-- after its wait line a suspend or a resume waits while the device moves, and disable and barrier while it is busy
abbrev pub blocks : Views → Stage → Bool
blocks v (stage.Suspend (suspend.Waiting d f)) = is_moving v d
blocks v (stage.Resume (resume.Waiting r tried)) = is_moving v r.dev
blocks v (stage.Control (control.Disabled d)) = busy v d
blocks v (stage.Control (control.BarrierWait d c)) = busy v d
blocks v _ = false
