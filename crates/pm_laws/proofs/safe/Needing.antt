-- A device that needs its suppliers is not Suspended, and no stage gives back what it took.
use Rattle.std.proofs.Common.{ℕ, ◌≡◌, ◌+◌, ◌<◌, ◌≤◌, ◌⊎◌, true, false, length, refl, inl, inr, arith}
use Rattle.pm_base.specs.declared.DevId.{DevId}
use Rattle.pm_base.specs.declared.Status.{Status}
use Rattle.pm_base.specs.declared.Status.TheVariants as status
use Rattle.pm_model.specs.declared.plan.Plan.{Plan}
use Rattle.pm_model.specs.Derived.{is_active_status, is_suspended, is_suspended_status, is_suspending_status, is_resuming_status}
use Rattle.pm_model.specs.Views.{device}
use Rattle.pm_model.specs.World.{World}
use Rattle.pm_laws.specs.counts.Sums.{one, tally}
use Rattle.pm_laws.specs.counts.Owners.{places, HasOneOwner}
use Rattle.pm_laws.specs.safe.Needs.{needs_supplier, gives_way, Needs}
use Rattle.pm_laws.specs.safe.Parts.{Phase, suspending}
use Rattle.pm_laws.proofs.safe.Owners.{apart_parts, owners_are}
use Rattle.pm_laws.specs.safe.Pends.{falls_back}

-- what a status says of the owners of the device
status_rooms : (x : Status) (needs falls all : ℕ) → needs + falls ≤ all → one (is_suspending_status x) + one (is_resuming_status x) ≡ all
    → (is_active_status x ≡ true) ⊎ (0 < needs) → (is_suspended_status x ≡ false) × (falls ≡ 0)
status_rooms status.Active needs falls all le is h = (refl, omega arith)
status_rooms status.Suspending needs falls all le is (inl e) = cc
status_rooms status.Suspending needs falls all le is (inr some) = (refl, omega arith)
status_rooms status.Resuming needs falls all le is (inl e) = cc
status_rooms status.Resuming needs falls all le is (inr some) = (refl, omega arith)
status_rooms status.Suspended needs falls all le is (inl e) = cc
status_rooms status.Suspended needs falls all le is (inr some) = absurd (omega arith)

apart : (x : Phase) → one (needs_supplier x) + one (gives_way x) ≤ 1
apart suspending = omega arith
apart _ = omega arith

pub needing : (plan : Plan) (w : World) (d : DevId) → d.0 < length plan.devices → HasOneOwner plan w → Needs w needs_supplier d
    → (is_suspended w.views d ≡ false) × (tally (falls_back d) (places w) ≡ 0)
needing plan w d within owners needs =
    status_rooms (device w.views d).status _ _ _ (apart_parts needs_supplier gives_way d (places w) apart) (owners_are plan w d owners within) needs
