-- A link that becomes present has a consumer that is Suspended.
use Rattle.std.proofs.Common.{ℕ, ◌≡◌, ◌<◌, Bool, true, false, ◌&&◌, ◌∷◌, Some, length, slice_get, refl, sym, ◌∙◌, ap, subst}
use Rattle.std.specs.Option.{unwrap_or}
use Rattle.pm_base.specs.declared.DevId.{DevId}
use Rattle.pm_base.specs.declared.Status.{Status}
use Rattle.pm_base.specs.declared.Status.TheVariants as status
use Rattle.pm_model.specs.declared.event.Line.{Line}
use Rattle.pm_model.specs.declared.plan.Plan.{Plan}
use Rattle.pm_model.specs.declared.rows.LinkRow.{LinkRow}
use Rattle.pm_model.specs.Counted.{is_same, only_if}
use Rattle.pm_model.specs.Derived.{is_active, is_active_status, is_suspended, is_suspended_status}
use Rattle.pm_model.specs.History.{History}
use Rattle.pm_model.specs.Lawful.{IsLawful}
use Rattle.pm_model.specs.Views.{Views, device, is_present}
use Rattle.pm_model.specs.World.{world}
use Rattle.pm_laws.specs.safe.Kinds.{Guard, Kind, adds_link, drops_held, drops_link, says, shows}
use Rattle.pm_laws.specs.safe.LineKind.{HasKind}
use Rattle.pm_laws.proofs.safe.Lines.{line_kind}
use Rattle.pm_laws.proofs.safe.Steps.{differ, same_is}

pub active_awake : (s : Status) → is_active_status s ≡ true → is_suspended_status s ≡ true → ⊥
active_awake status.Active a b = cc
active_awake status.Suspended a b = cc
active_awake status.Suspending a b = cc
active_awake status.Resuming a b = cc

dropped : (b now was : Bool) → now ≡ unwrap_or (only_if b false) was → now ≡ true → was ≡ true
dropped true now was is up = differ up is
dropped false now was is up = sym is ∙ up

shown : (plan : Plan) (v : Views) (k : Kind) (c s : DevId) (now was : Bool) (st : Status) → Guard plan v k → now ≡ unwrap_or (shows k c s) was
    → st ≡ unwrap_or (says k c) (device v c).status → now ≡ true → is_active_status st ≡ true → was ≡ true
shown plan v (adds_link d t) c s now was st g is still up active = go (is_same s t && is_same c d) refl is
  where
    rear : (a b : Bool) → a && b ≡ true → b ≡ true
    rear true b e = e
    rear false b e = cc

    go : (b : Bool) → is_same s t && is_same c d ≡ b → now ≡ unwrap_or (only_if b true) was → was ≡ true
    go true same n =
        let rests : is_suspended v c ≡ true = subst (λ x. is_suspended v x ≡ true) (same_is c d (rear (is_same s t) (is_same c d) same)) g.0 in
        absurd (active_awake st active (ap is_suspended_status still ∙ rests))
    go false same n = sym n ∙ up
shown plan v (drops_link d t) c s now was st g is still up active = dropped (is_same s t && is_same c d) now was is up
shown plan v (drops_held d t) c s now was st g is still up active = dropped (is_same s t && is_same c d) now was is up
shown plan v _ c s now was st g is still up active = sym is ∙ up

pub present_frame : (plan : Plan) (h : History) (line : Line) (l : ℕ) (row : LinkRow) → IsLawful plan (line ∷ h) → slice_get plan.links l ≡ Some row
    → row.consumer.0 < length plan.devices → is_present (world plan (line ∷ h)).views l ≡ true → is_active (world plan (line ∷ h)).views row.consumer ≡ true
    → is_present (world plan h).views l ≡ true
present_frame plan h line l row lawful at within now up =
    let k : HasKind plan h line = line_kind plan h line lawful in
    shown plan (world plan h).views k.kind row.consumer row.supplier _ _ _ k.guard (k.present l row at) (k.status row.consumer within) now up
