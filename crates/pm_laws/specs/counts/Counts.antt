-- Usage adds up: who holds the counts on a device.
use Rattle.std.specs.Prelude.{ℕ, ◌≡◌, ◌+◌, ◌<◌, Bool, not, ◌&&◌, List, length, nat_eq, count_by}
use Rattle.std.specs.List.{zip}
use Rattle.pm_base.specs.declared.DevId.{DevId}
use Rattle.pm_model.specs.declared.plan.Plan.{Plan}
use Rattle.pm_model.specs.declared.stage.Await.TheVariants as await
use Rattle.pm_model.specs.declared.stage.ControlStage.TheVariants as control
use Rattle.pm_model.specs.declared.stage.ResumeCall.{ResumeCall}
use Rattle.pm_model.specs.declared.stage.ResumeStage.TheVariants as resume
use Rattle.pm_model.specs.declared.stage.Stage.{Stage}
use Rattle.pm_model.specs.declared.stage.Stage.TheVariants as stage
use Rattle.pm_model.specs.declared.views.Device.{Device}
use Rattle.pm_model.specs.Counted.{is_same}
use Rattle.pm_model.specs.Derived.{prevented}
use Rattle.pm_model.specs.PlanRows.{has_parent, parent_of}
use Rattle.pm_model.specs.Views.{Views, device}
use Rattle.pm_model.specs.World.{World}
use Rattle.pm_laws.specs.counts.Sums.{one, tally}
use Rattle.pm_laws.specs.counts.Owners.{places}

-- whether this call of resume holds a count on d, the parent of its device
abbrev pub has_mark : Plan → DevId → ResumeCall → Bool
has_mark plan d r = (r.held && has_parent plan r.dev) && is_same d (parent_of plan r.dev)

-- the counts on d that a stage holds and that a later line of its actor gives back: a resume's on its parent, and those
-- of disable and of barrier
abbrev pub holds : Plan → DevId → Stage → ℕ
holds plan d (stage.Resume (resume.Verdict r tried)) = one (has_mark plan d r)
holds plan d (stage.Resume (resume.Waiting r tried)) = one (has_mark plan d r)
holds plan d (stage.Resume (resume.Links r)) = one (has_mark plan d r)
holds plan d (stage.Resume (resume.Supplied r c)) = one (has_mark plan d r)
holds plan d (stage.Resume (resume.Callback r)) = one (has_mark plan d r)
holds plan d (stage.Resume (resume.Running r since)) = one (has_mark plan d r)
holds plan d (stage.Resume (resume.Resumed r)) = one (has_mark plan d r)
holds plan d (stage.Resume (resume.Idle r)) = one (has_mark plan d r)
holds plan d (stage.Resume (resume.Done r c)) = one (has_mark plan d r)
holds plan d (stage.Resume (resume.Parent r c)) = one (is_same d (parent_of plan r.dev))
holds plan d (stage.Resume (resume.Domain r c)) = one (has_mark plan d r)
holds plan d (stage.Resume (resume.Unwind r c)) = one (has_mark plan d r)
holds plan d (stage.Control (control.DisablePut e)) = one (is_same d e)
holds plan d (stage.Control (control.BarrierResume e)) = one (is_same d e)
holds plan d (stage.Control (control.BarrierIdle e c)) = one (is_same d e)
holds plan d (stage.Control (control.BarrierWait e c)) = one (is_same d e)
holds plan d (stage.Await (await.ResumeParent r)) = one (has_mark plan d r)
holds plan d (stage.Await (await.ResumeSupplier r link)) = one (has_mark plan d r)
holds plan d (stage.Await (await.ResumeIdle r)) = one (has_mark plan d r)
holds plan d (stage.Await (await.ResumeUnwind r c)) = one (has_mark plan d r)
holds plan d (stage.Await (await.DisableResume e)) = one (is_same d e)
holds plan d (stage.Await (await.BarrierResume e)) = one (is_same d e)
holds plan d _ = 0

-- the held links with supplier d
abbrev pub lent : Plan → List Bool → DevId → ℕ
lent plan held d = count_by (λ p. nat_eq p.0.supplier.0 d.0 && p.1) (zip plan.links held)

-- the counts that a device's entry tells of: those of callers, of forbid and of a negative autosuspend delay
abbrev pub told : Device → ℕ
told x = x.share + one (not x.auto_on) + one (prevented x.use_auto x.delay)

-- the counts that the views tell of
abbrev pub owed : Plan → Views → DevId → ℕ
owed plan v d = told (device v d) + lent plan v.held d

-- the usage of each device is the number of counts that someone holds on it
abbrev pub AddsUp : Plan → World → Type 0
AddsUp plan w = (d : DevId) → d.0 < length plan.devices → (device w.views d).usage ≡ owed plan w.views d + tally (holds plan d) (places w)
