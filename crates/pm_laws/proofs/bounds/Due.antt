-- No due moment is more than 1,000,000 milliseconds after the last line.
use Rattle.std.proofs.Common.{ℕ, ◌≡◌, ◌+◌, ◌≤◌, true, List, Option, Some, None, length, nat_le, slice_get, refl, subst, arith}
use Rattle.std.specs.Option.{option_map_or}
use Rattle.std.proofs.lemmas.Bool.{leb-true}
use Rattle.pm_base.specs.declared.ActorId.{ActorId}
use Rattle.pm_base.specs.declared.Armed.{Armed}
use Rattle.pm_base.specs.declared.Cb.{Cb}
use Rattle.pm_base.specs.declared.Cb.TheVariants as cb
use Rattle.pm_base.specs.declared.DevId.{DevId}
use Rattle.pm_base.specs.declared.limits.TheConstants.{MAX_MS}
use Rattle.pm_model.specs.declared.event.Line.{Line}
use Rattle.pm_model.specs.declared.plan.Plan.{Plan}
use Rattle.pm_model.specs.declared.rows.DeviceRow.{DeviceRow}
use Rattle.pm_model.specs.declared.stage.HelperStage.TheVariants as at
use Rattle.pm_model.specs.declared.stage.IdleStage.TheVariants as idle
use Rattle.pm_model.specs.declared.stage.ResumeStage.TheVariants as resume
use Rattle.pm_model.specs.declared.stage.Stage.{Stage}
use Rattle.pm_model.specs.declared.stage.Stage.TheVariants as stage
use Rattle.pm_model.specs.declared.stage.SuspendStage.TheVariants as suspend
use Rattle.pm_model.specs.IsPlan.{is_device}
use Rattle.pm_model.specs.Lawful.{IsLawful, last_time}
use Rattle.pm_model.specs.PlanRows.{ms_of, ms_of_row}
use Rattle.pm_model.specs.Views.{Views, timer}
use Rattle.pm_model.specs.World.{due, stage_at, world}
use Rattle.pm_laws.specs.stacks.Fit.{IsFit}
use Rattle.pm_laws.proofs.stacks.Fitting.{stands_fit}
use Rattle.pm_laws.proofs.stacks.PlanLaw.{device_lawful}
use Rattle.pm_laws.proofs.stacks.Tests.{front, rear}
use Rattle.pm_laws.proofs.bounds.ControlSays.{few_ms}
use Rattle.pm_laws.proofs.bounds.Timers.{AreSoon, deadline_of, timers_soon}

-- a callback takes at most 1,000,000 milliseconds
row_times : (k : Cb) (domains i : ℕ) (row : DeviceRow) → is_device domains i row ≡ true → nat_le (ms_of_row k row) MAX_MS ≡ true
row_times cb.Idle domains i row is = rear _ _ (front _ _ (front _ _ (front _ _ (front _ _ (front _ _ is)))))
row_times cb.Suspend domains i row is = rear _ _ (front _ _ (front _ _ (front _ _ (front _ _ is))))
row_times cb.Resume domains i row is = rear _ _ (front _ _ (front _ _ (front _ _ is)))

callback_takes : (plan : Plan) (k : Cb) (d : DevId) → ms_of plan k d ≤ 1000000
unfolding ms_of
callback_takes plan k d = go (slice_get plan.devices d.0) (λ row is. leb-true _ _ (row_times k (length plan.domains) d.0 row (device_lawful plan d.0 row is)))
  where
    go : (o : Option DeviceRow) → ((row : DeviceRow) → o ≡ Some row → ms_of_row k row ≤ MAX_MS) → option_map_or (ms_of_row k) o 0 ≤ 1000000
    go None all = omega arith
    go (Some row) all = all row refl

due_soon : (plan : Plan) (v : Views) (last : ℕ) (s : Stage) → AreSoon (last + 1000000) v → IsFit plan v last s → due plan v s ≤ last + 1000000
due_soon plan v last (stage.Idle (idle.Running d f since)) soon fit = omega (arith, fit.since, callback_takes plan cb.Idle d)
due_soon plan v last (stage.Suspend (suspend.Running d f since)) soon fit = omega (arith, fit.since, callback_takes plan cb.Suspend d)
due_soon plan v last (stage.Resume (resume.Running r since)) soon fit = omega (arith, fit.since, callback_takes plan cb.Resume r.dev)
due_soon plan v last (stage.Helper (at.Delay ms since)) soon fit = omega (arith, fit.since, few_ms ms fit.told)
due_soon plan v last (stage.Helper (at.Timer d)) soon fit = soon d
due_soon plan v last _ soon fit = omega arith

pub stands_due : (plan : Plan) (h : List Line) (a : ActorId) (s : Stage) → IsLawful plan h → stage_at plan (world plan h) a ≡ Some s
    → due plan (world plan h).views s ≤ last_time h + 1000000
stands_due plan h a s lawful at = due_soon plan (world plan h).views (last_time h) s (timers_soon plan h lawful) (stands_fit plan h a s lawful at)

pub armed_soon : (plan : Plan) (h : List Line) (d : DevId) (armed : Armed) → IsLawful plan h → timer (world plan h).views d ≡ Some armed
    → armed.deadline ≤ last_time h + 1000000
armed_soon plan h d armed lawful is = subst (λ o. deadline_of o ≤ last_time h + 1000000) is (timers_soon plan h lawful d)
