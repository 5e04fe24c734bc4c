-- The call of a helper, whichever helper it is.
use Rattle.std.proofs.Common.{◌≡◌, ◌⊎◌, Bool, true, false, if◌then◌else◌, refl, inl, inr}
use Rattle.pm_base.specs.declared.DevId.{DevId}
use Rattle.pm_model.specs.declared.event.Helper.{Helper}
use Rattle.pm_model.specs.declared.event.Helper.TheVariants as helper
use Rattle.pm_model.specs.declared.plan.Plan.{Plan}
use Rattle.pm_model.specs.declared.stage.Purpose.TheVariants.{Plain}
use Rattle.pm_model.specs.HelperTable.{flags_of}
use Rattle.pm_laws.specs.stacks.Shape.{Call, lowers, raises, is_odd, lowering, returns_resume, helper_call, LowersParent, LowersSupplier, MayZero}

-- the call whose code a helper returns is a resume, or an idle, a suspend or what follows a put
pub data IsHelperCall (h : Helper) (d : DevId) (k : Call) : Type 0 where
  raised : k ≡ raises d (flags_of h) Plain → IsHelperCall h d k
  lowered : returns_resume h ≡ false → k ≡ lowers d (is_odd (flags_of h)) → IsHelperCall h d k

pub helper_calls : (h : Helper) (d : DevId) (k : Call) → k ≡ helper_call h d → IsHelperCall h d k
helper_calls h d k e = go (returns_resume h) refl e
  where
    go : (b : Bool) → returns_resume h ≡ b → k ≡ (if b then raises d (flags_of h) Plain else lowering d (flags_of h)) → IsHelperCall h d k
    go true is e = raised e
    go false is e = lowered is e

-- one that returns 0 calls a resume, or an idle, a suspend or what follows a put of its device, of the parent or of a supplier
pub data IsZeroCall (plan : Plan) (d : DevId) (k : Call) : Type 0 where
  zero_raised : k ≡ raises d 0 Plain → IsZeroCall plan d k
  zero_lowered : (odd : Bool) → k ≡ lowers d odd → IsZeroCall plan d k
  parents : LowersParent plan d k → IsZeroCall plan d k
  suppliers : LowersSupplier plan d k → IsZeroCall plan d k

setting : (plan : Plan) (d : DevId) (k : Call) → (k ≡ raises d 0 Plain) ⊎ (k ≡ lowers d false) → IsZeroCall plan d k
setting plan d k (inl e) = zero_raised e
setting plan d k (inr e) = zero_lowered false e

pub zero_calls : (plan : Plan) (h : Helper) (d : DevId) (k : Call) → MayZero plan h d k → IsZeroCall plan d k
zero_calls plan helper.Forbid d k e = zero_raised e
zero_calls plan helper.Allow d k e = zero_lowered true e
zero_calls plan helper.UseAutosuspend d k m = setting plan d k m
zero_calls plan helper.DontUseAutosuspend d k m = setting plan d k m
zero_calls plan helper.SetAutosuspendDelay d k m = setting plan d k m
zero_calls plan helper.SetSuspended d k m = parents m
zero_calls plan helper.LinkDel d k m = suppliers m
zero_calls plan _ d k m = elim m [ ]
