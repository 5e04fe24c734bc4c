-- What a code makes of the stages that take it, while nothing disturbs.
use Rattle.std.proofs.Common.{◌≡◌, inl, inr, Bool, true, false, ◌&&◌, ℕ, ℤ, pos, refl}
use Rattle.std.specs.Ordering.{int_eq}
use Rattle.pm_base.specs.declared.DevId.{DevId}
use Rattle.pm_base.specs.declared.codes.TheConstants.{EACCES}
use Rattle.pm_model.specs.declared.event.Helper.{Helper}
use Rattle.pm_model.specs.declared.event.Helper.TheVariants as helper
use Rattle.pm_model.specs.declared.plan.Plan.{Plan}
use Rattle.pm_model.specs.declared.stage.Await.{Await}
use Rattle.pm_model.specs.declared.stage.Await.TheVariants as await
use Rattle.pm_model.specs.declared.stage.HelperStage.TheVariants as at
use Rattle.pm_model.specs.declared.stage.Purpose.{Purpose}
use Rattle.pm_model.specs.declared.stage.Purpose.TheVariants as purpose
use Rattle.pm_model.specs.declared.stage.Stage.TheVariants as stage
use Rattle.pm_model.specs.Handing.{take_code}
use Rattle.pm_model.specs.PlanRows.{has_parent}
use Rattle.pm_model.specs.ResumeTable.{is_supplied}
use Rattle.pm_laws.specs.stacks.Shape.{Call, raises, returns_resume, May, Fits}
use Rattle.pm_laws.specs.safe.Pends.{is_up}
use Rattle.pm_laws.proofs.gets.Passing.{silent, Passes}
use Rattle.pm_laws.specs.gets.Undisturbed.{flags_fit, code_fits, is_bad, ends_badly, needs_up, brings_up, needs_enabled, no_end}
use Rattle.pm_laws.proofs.gets.Bools.{bad_either, bad_left, bad_right, implies_up, up_supplied}

-- a code that says that the device is up is good for each purpose
pub up_fits : (x : DevId) (enabled : Bool) (p : Purpose) (d : DevId) (f : ℕ) (c : ℤ) → is_up c ≡ true → code_fits x enabled p d f c ≡ true
up_fits x enabled purpose.Plain d f c e = implies_up _ (is_up c) e
up_fits x enabled purpose.Child d f c e = e
up_fits x enabled (purpose.Link l) d f c e = up_supplied (int_eq c (pos 0)) (int_eq c (pos 1)) (int_eq c EACCES) e

returned_badly : (plan : Plan) (x : DevId) (enabled : Bool) (h : Helper) (d : DevId) (c : ℤ) (k : Call) → May plan (await.Return h d) k
    → is_bad plan x enabled (stage.Helper (at.Ret h d c)) ≡ true → ends_badly x enabled k c ≡ true
returned_badly plan x enabled helper.GetSync d c k may e = let is : k ≡ raises d 4 purpose.Plain = may in rw is e
returned_badly plan x enabled _ d c k may e = cc

never_zero : {A : Type 0} (plan : Plan) (x : DevId) (enabled : Bool) (h : Helper) (d : DevId) (c : ℤ) → returns_resume h ≡ false
    → is_bad plan x enabled (stage.Helper (at.Ret h d c)) ≡ true → A
never_zero plan x enabled helper.GetSync d c apart e = cc
never_zero plan x enabled _ d c apart e = cc

pub bad_passes : (plan : Plan) (x : DevId) (enabled : Bool) (a : Await) (c : ℤ) (k : Call) → Fits plan (stage.Await a) → May plan a k
    → Passes (is_bad plan x enabled) (ends_badly x enabled) a c k (take_code a c)
unfolding take_code
bad_passes plan x enabled (await.ResumeParent r) c k holds may = λ e. inl (bad_left (flags_fit r.purpose r.flags) (r.held && has_parent plan r.dev) e holds)
bad_passes plan x enabled (await.ResumeSupplier r link) c k holds (s, is, at) = λ e. elim (bad_either (flags_fit r.purpose r.flags) (is_supplied c) e) [
  | inl bad ↦ inl bad
  | inr bad ↦ inr (rw at bad)
]
bad_passes plan x enabled (await.ResumeIdle r) c k holds may = λ e. inl (bad_left (flags_fit r.purpose r.flags) (code_fits x enabled r.purpose r.dev r.flags (pos 0)) e (up_fits x enabled r.purpose r.dev r.flags (pos 0) refl))
bad_passes plan x enabled (await.ResumeUnwind r kept) c k holds may = λ e. inl refl
bad_passes plan x enabled (await.ResumePut r kept) c k holds may = λ e. bad_right (flags_fit r.purpose r.flags) (code_fits x enabled r.purpose r.dev r.flags kept) e
bad_passes plan x enabled (await.Return h d) c k holds may = λ e. inr (returned_badly plan x enabled h d c k may e)
bad_passes plan x enabled (await.ReturnZero h d) c k holds may = λ e. never_zero plan x enabled h d (pos 0) holds e
bad_passes plan x enabled (await.DisableResume d) c k holds may = λ e. inl refl
bad_passes plan x enabled (await.ActiveSupplier d link) c k holds may =
    silent (is_bad plan x enabled) (ends_badly x enabled) (await.ActiveSupplier d link) c k (is_supplied c) _ _ refl refl
bad_passes plan x enabled _ c k holds may = λ e. cc

-- where the resume of a parent ends, the child's that goes on needs the parent Active
pub up_passes : (plan : Plan) (d : DevId) (a : Await) (c : ℤ) (k : Call) → Fits plan (stage.Await a) → May plan a k → Passes (needs_up plan d) (brings_up d) a c k (take_code a c)
unfolding take_code
up_passes plan d (await.ResumeParent r) c k holds (has, is) = λ e. inr (rw is e)
up_passes plan d (await.ResumeIdle r) c k holds may = λ e. inl e
up_passes plan d (await.ResumePut r kept) c k holds may = λ e. e
up_passes plan d (await.ActiveSupplier e link) c k holds may = silent (needs_up plan d) (brings_up d) (await.ActiveSupplier e link) c k (is_supplied c) _ _ refl refl
up_passes plan d _ c k holds may = λ e. cc

pub enabled_passes : (plan : Plan) (d : DevId) (a : Await) (c : ℤ) (k : Call) → Fits plan (stage.Await a) → May plan a k → Passes (needs_enabled d) no_end a c k (take_code a c)
unfolding take_code
enabled_passes plan d (await.ResumeParent r) c k holds may = λ e. inl e
enabled_passes plan d (await.ResumePut r kept) c k holds may = λ e. cc
enabled_passes plan d (await.ActiveSupplier e link) c k holds may = silent (needs_enabled d) no_end (await.ActiveSupplier e link) c k (is_supplied c) _ _ refl refl
enabled_passes plan d _ c k holds may = λ e. cc
