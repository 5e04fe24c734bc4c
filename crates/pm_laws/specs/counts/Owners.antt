-- One owner: which stages carry out a device's transition (runtime_pm.rst, sections 2 and 4).
use Rattle.std.specs.Prelude.{ℕ, ◌≡◌, ◌<◌, List, ◌++◌, length}
use Rattle.pm_base.specs.declared.DevId.{DevId}
use Rattle.pm_model.specs.declared.plan.Plan.{Plan}
use Rattle.pm_model.specs.declared.stage.Await.TheVariants as await
use Rattle.pm_model.specs.declared.stage.ControlStage.TheVariants as control
use Rattle.pm_model.specs.declared.stage.ResumeStage.TheVariants as resume
use Rattle.pm_model.specs.declared.stage.Stage.{Stage}
use Rattle.pm_model.specs.declared.stage.Stage.TheVariants as stage
use Rattle.pm_model.specs.declared.stage.SuspendStage.TheVariants as suspend
use Rattle.pm_model.specs.Counted.{is_same}
use Rattle.pm_model.specs.Derived.{is_suspending, is_resuming}
use Rattle.pm_model.specs.World.{World}
use Rattle.pm_laws.specs.counts.Sums.{one, tally}

-- the places of all actors
abbrev pub places : World → List (List Stage)
places w = w.caller_places ++ w.work_places ++ w.timer_places

-- 1 at a stage of a suspend of d that has begun its callback and not turned the status. A stage that awaits a call
-- counts as the stage at which it goes on
abbrev pub owns_suspend : DevId → Stage → ℕ
owns_suspend d (stage.Suspend (suspend.Running e f since)) = one (is_same d e)
owns_suspend d (stage.Suspend (suspend.Domain e f)) = one (is_same d e)
owns_suspend d (stage.Suspend (suspend.Links e f)) = one (is_same d e)
owns_suspend d (stage.Await (await.SuspendLinks e f)) = one (is_same d e)
owns_suspend d _ = 0

-- 1 at a stage of a resume of d, or of its set_active, between the line that turns the status to Resuming and the
-- one that turns it again
abbrev pub owns_resume : DevId → Stage → ℕ
owns_resume d (stage.Resume (resume.Links r)) = one (is_same d r.dev)
owns_resume d (stage.Resume (resume.Supplied r c)) = one (is_same d r.dev)
owns_resume d (stage.Resume (resume.Callback r)) = one (is_same d r.dev)
owns_resume d (stage.Resume (resume.Running r since)) = one (is_same d r.dev)
owns_resume d (stage.Resume (resume.Resumed r)) = one (is_same d r.dev)
owns_resume d (stage.Resume (resume.Domain r c)) = one (is_same d r.dev)
owns_resume d (stage.Resume (resume.Unwind r c)) = one (is_same d r.dev)
owns_resume d (stage.Control (control.ActiveLinks e)) = one (is_same d e)
owns_resume d (stage.Control (control.ActiveUnwind e c)) = one (is_same d e)
owns_resume d (stage.Await (await.ResumeSupplier r link)) = one (is_same d r.dev)
owns_resume d (stage.Await (await.ResumeUnwind r c)) = one (is_same d r.dev)
owns_resume d (stage.Await (await.ActiveSupplier e link)) = one (is_same d e)
owns_resume d (stage.Await (await.ActiveUnwind e c)) = one (is_same d e)
owns_resume d _ = 0

-- exactly one stage of all actors carries out the transition of a Suspending device, and of a Resuming one; none that
-- of another device
pub record HasOneOwner (plan : Plan) (w : World) : Type 0 where
  pub suspending : (d : DevId) → d.0 < length plan.devices → tally (owns_suspend d) (places w) ≡ one (is_suspending w.views d)
  pub resuming : (d : DevId) → d.0 < length plan.devices → tally (owns_resume d) (places w) ≡ one (is_resuming w.views d)
