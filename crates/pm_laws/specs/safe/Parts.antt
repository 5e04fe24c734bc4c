-- Which part of a device's transition a stage carries out (runtime_pm.rst, sections 2 and 4; device_link.rst).
use Rattle.std.specs.Prelude.{ℕ, ◌≡◌, ◌≤◌, Bool, true, ◌&&◌, Option, Some, None, if◌then◌else◌}
use Rattle.pm_base.specs.declared.DevId.{DevId}
use Rattle.pm_model.specs.declared.stage.Await.TheVariants as await
use Rattle.pm_model.specs.declared.stage.ControlStage.TheVariants as control
use Rattle.pm_model.specs.declared.stage.ResumeStage.TheVariants as resume
use Rattle.pm_model.specs.declared.stage.Stage.{Stage}
use Rattle.pm_model.specs.declared.stage.Stage.TheVariants as stage
use Rattle.pm_model.specs.declared.stage.SuspendStage.TheVariants as suspend
use Rattle.pm_model.specs.Counted.{is_same}
use Rattle.pm_model.specs.ResumeTable.{is_supplied}
use Rattle.pm_laws.specs.counts.Sums.{one}

-- the phases of a suspend: its callback runs [S2], the domain goes off [S3], links are given back [S4]; of a resume:
-- links are taken [R2, R3], a supplier failed [R3], all is ready [R4], the callback runs [R4b], it succeeded [R4c], it
-- failed [R8], links are given back [R9]; and of set_active: links are taken [A2], or given back [A4]
pub data Phase : Type 0 where
  suspending : Phase
  lowering : Phase
  giving : Phase
  preparing : Phase
  refused : Phase
  ready : Phase
  resuming : Phase
  resumed : Phase
  failed : Phase
  falling : Phase
  setting : Phase
  unsetting : Phase

-- a device in a phase of its transition
pub data Part : Type 0 where
  no_part : Part
  part : DevId → Phase → Part

-- a stage that awaits a call counts as the stage at which it goes on; one that awaits a supplier's resume, as the stage
-- at which it goes on where the supplier is up
abbrev pub part_of : Stage → Part
part_of (stage.Suspend (suspend.Running d f since)) = part d suspending
part_of (stage.Suspend (suspend.Domain d f)) = part d lowering
part_of (stage.Suspend (suspend.Links d f)) = part d giving
part_of (stage.Await (await.SuspendLinks d f)) = part d giving
part_of (stage.Resume (resume.Links r)) = part r.dev preparing
part_of (stage.Resume (resume.Supplied r c)) = part r.dev (if is_supplied c then preparing else refused)
part_of (stage.Resume (resume.Callback r)) = part r.dev ready
part_of (stage.Resume (resume.Running r since)) = part r.dev resuming
part_of (stage.Resume (resume.Resumed r)) = part r.dev resumed
part_of (stage.Resume (resume.Domain r c)) = part r.dev failed
part_of (stage.Resume (resume.Unwind r c)) = part r.dev falling
part_of (stage.Control (control.ActiveLinks e)) = part e setting
part_of (stage.Control (control.ActiveUnwind e c)) = part e unsetting
part_of (stage.Await (await.ResumeSupplier r link)) = part r.dev preparing
part_of (stage.Await (await.ResumeUnwind r c)) = part r.dev falling
part_of (stage.Await (await.ActiveSupplier e link)) = part e setting
part_of (stage.Await (await.ActiveUnwind e c)) = part e unsetting
part_of _ = no_part

-- a device, and its phase if it has one
abbrev pub part_at : DevId → Option Phase → Part
part_at d None = no_part
part_at d (Some x) = part d x

-- 1 where the part is one of d, in a phase that passes the test
abbrev pub counts : (Phase → Bool) → DevId → Part → ℕ
counts test d no_part = 0
counts test d (part e x) = one (is_same d e && test x)

-- 1 at a stage of such a part
abbrev pub at_part : (Phase → Bool) → DevId → Stage → ℕ
at_part test d s = counts test d (part_of s)

-- 1 where there is a phase, which passes the test
abbrev pub passes : (Phase → Bool) → Option Phase → ℕ
passes test None = 0
passes test (Some x) = one (test x)

abbrev pub any_phase : Phase → Bool
any_phase x = true

-- the test passes no more once a supplier failed
pub record Falls (test : Phase → Bool) : Type 0 where
  pub refuses : one (test refused) ≤ one (test preparing)
  pub unsets : one (test unsetting) ≤ one (test setting)

-- the test passes as before
pub record Stays (test : Phase → Bool) : Type 0 where
  pub refuses : test refused ≡ test preparing
  pub unsets : test unsetting ≡ test setting
