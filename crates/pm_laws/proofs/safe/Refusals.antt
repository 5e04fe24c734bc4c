-- What a device that may suspend is.
use Rattle.std.proofs.Common.{◌≡◌, Bool, true, false, ◌&&◌, pos, if◌then◌else◌, refl}
use Rattle.std.specs.Prelude.{◌||◌}
use Rattle.std.specs.Ordering.{int_eq}
use Rattle.pm_base.specs.declared.DevId.{DevId}
use Rattle.pm_base.specs.declared.Status.{Status}
use Rattle.pm_base.specs.declared.Status.TheVariants as status
use Rattle.pm_base.specs.declared.codes.TheConstants.{EAGAIN, EACCES, EBUSY, EINVAL}
use Rattle.pm_model.specs.declared.plan.Plan.{Plan}
use Rattle.pm_model.specs.Derived.{refusal, has_error, is_disabled, is_in_use, has_children, is_suspending, asks_resume, is_suspended, is_active, is_active_status, is_suspended_status, is_suspending_status, is_resuming_status}
use Rattle.pm_model.specs.Views.{Views, device, pending_of}
use Rattle.pm_laws.specs.safe.Kinds.{MayRest}

pub record Rests (plan : Plan) (v : Views) (d : DevId) : Type 0 where
  pub unused : is_in_use v d ≡ false
  pub childless : has_children plan v d ≡ false
  pub unasked : asks_resume v d ≡ false
  pub active : is_active v d ≡ true

abbrev Four : Bool → Bool → Bool → Bool → Type 0
Four c d f g = (c ≡ false) × (d ≡ false) × (f ≡ false) × (g ≡ false)

free_of : (a b c d e f g : Bool)
    → int_eq (if a then EINVAL else if b then EACCES else if c then EAGAIN else if d then EBUSY else if e then EAGAIN else if f then EAGAIN else if g then pos 1 else pos 0) (pos 0) ≡ true
    → Four c d f g
free_of true b c d e f g h = cc
free_of false true c d e f g h = cc
free_of false false true d e f g h = cc
free_of false false false true e f g h = cc
free_of false false false false true f g h = cc
free_of false false false false false true g h = cc
free_of false false false false false false true h = cc
free_of false false false false false false false h = (refl, refl, refl, refl)

up : (st : Status) → is_suspended_status st ≡ false → is_suspending_status st || is_resuming_status st ≡ false → is_active_status st ≡ true
up status.Active a b = refl
up status.Suspended a b = cc
up status.Suspending a b = cc
up status.Resuming a b = cc

pub rests_so : (plan : Plan) (v : Views) (d : DevId) → MayRest plan v d → Rests plan v d
unfolding refusal
rests_so plan v d m =
    let four = free_of (has_error v d) (is_disabled v d) (is_in_use v d) (has_children plan v d) (is_suspending v d && (pending_of v d).deferred) (asks_resume v d) (is_suspended v d) m.free in
    record { unused = four.0; childless = four.1; unasked = four.2; active = up (device v d).status four.3 m.stands }
