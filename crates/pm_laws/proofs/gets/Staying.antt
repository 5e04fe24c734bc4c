-- A device stays Active while its callers don't let go of it.
use Rattle.std.proofs.Common.{ℕ, ◌≡◌, ◌+◌, ◌<◌, ◌≤◌, ◌⊎◌, Bool, true, false, ◌∷◌, None, length, nat_eq, nat_lt, ap, refl, sym, ◌∙◌, arith, inl, inr}
use Rattle.std.specs.Option.{unwrap_or}
use Rattle.std.proofs.lemmas.Bool.{cases_lt, ltb-false}
use Rattle.std.proofs.lemmas.List.{get_or_past}
use Rattle.pm_base.specs.declared.DevId.{DevId}
use Rattle.pm_base.specs.declared.Status.{Status}
use Rattle.pm_model.specs.declared.event.Event.{Event}
use Rattle.pm_model.specs.declared.event.Event.TheVariants as event
use Rattle.pm_model.specs.declared.event.Line.{Line}
use Rattle.pm_model.specs.declared.plan.Plan.{Plan}
use Rattle.pm_model.specs.ChangeViews.{change_views}
use Rattle.pm_model.specs.Counted.{is_callers, takes, gives_back, says_status}
use Rattle.pm_model.specs.Derived.{is_active, is_active_status}
use Rattle.pm_model.specs.Events.{by_event}
use Rattle.pm_model.specs.Excuse.{forces}
use Rattle.pm_model.specs.History.{History}
use Rattle.pm_model.specs.Lawful.{IsLawful}
use Rattle.pm_model.specs.Promises.{lets_go}
use Rattle.pm_model.specs.Views.{fresh_device, device}
use Rattle.pm_model.specs.World.{World, world}
use Rattle.pm_laws.specs.counts.Sums.{one, tally}
use Rattle.pm_laws.proofs.counts.Links.{neither}
use Rattle.pm_laws.proofs.counts.Rows.{said}
use Rattle.pm_laws.proofs.counts.Runs.{Holds, Paid, permitted, lawful_holds, status_is}
use Rattle.pm_laws.proofs.counts.Said.{views_next}
use Rattle.pm_laws.proofs.counts.Seen.{Aside}
use Rattle.pm_laws.proofs.counts.Shares.{share_after}
use Rattle.pm_laws.specs.safe.Kinds.{says}
use Rattle.pm_laws.specs.safe.Parts.{at_part, any_phase}
use Rattle.pm_laws.proofs.safe.Lines.{line_kind}
use Rattle.pm_laws.proofs.safe.Entries.{leaves}
use Rattle.pm_laws.proofs.safe.Refusals.{rests_so}
use Rattle.pm_laws.proofs.safe.Steps.{differ, owned_at}

-- a device with a share is one of the plan's
pub share_within : (plan : Plan) (w : World) (d : DevId) → Holds plan w → nat_eq (device w.views d).share 0 ≡ false → d.0 < length plan.devices
share_within plan w d holds some = elim (cases_lt d.0 (length plan.devices)) [ inl lt ↦ lt | inr le ↦ absurd (past le) ]
  where
    past : length plan.devices ≤ d.0 → ⊥
    past le =
        let fresh : device w.views d ≡ fresh_device = get_or_past w.views.devices d.0 fresh_device (omega (arith, holds.entries.devices)) in
        let k : nat_eq fresh_device.share 0 ≡ false = rw fresh at some in cc

pub status_next : (plan : Plan) (h : History) (line : Line) (d : DevId) → (p : Paid plan (world plan h) line) → d.0 < length plan.devices
    → (device (world plan (line ∷ h)).views d).status ≡ said line.event (world plan h).views d
status_next plan h line d p within =
    let w = world plan h in
    ap (λ v. let x : Status = (device v d).status in x) (views_next plan w line p)
    ∙ status_is plan line.time line.event w.views (change_views plan line.time p.change w.views) d (omega (arith, within, p.beside.entries.devices)) (p.beside.still d)

share_next : (plan : Plan) (h : History) (line : Line) (d : DevId) → (p : Paid plan (world plan h) line) → d.0 < length plan.devices
    → (device (world plan (line ∷ h)).views d).share + one (gives_back is_callers d line.event) ≡ (device (world plan h).views d).share + one (takes is_callers d line.event)
share_next plan h line d p within =
    let w = world plan h in
    let same : (device (change_views plan line.time p.change w.views) d).share ≡ (device w.views d).share = ap (λ (a : Aside). a.share) (p.beside.untouched.asides d) in
    let now : (device (world plan (line ∷ h)).views d).share ≡ (device (by_event plan line.time line.event (change_views plan line.time p.change w.views)) d).share = ap (λ v. let x : ℕ = (device v d).share in x) (views_next plan w line p) in
    let moves = share_after plan line.time line.event (change_views plan line.time p.change w.views) d (omega (arith, within, p.beside.entries.devices)) (λ g. ap (λ n. nat_eq n 0) same ∙ p.keeps.spends d g) in
    omega (arith, same, now)

-- a count that is taken says nothing of a status
taken_still : (d : DevId) (e : Event) → takes is_callers d e ≡ true → says_status d e ≡ None
taken_still d (event.Get x w) t = refl
taken_still d _ t = cc

no_share : (n : ℕ) → n ≡ 0 → nat_eq n 0 ≡ true
no_share n e = rw e refl

unused : (n : ℕ) → nat_lt 0 n ≡ false → n ≡ 0
unused n e = let le : n ≤ 0 = ltb-false 0 n e in omega arith

-- a device leaves Active only where its usage is 0, or by force
pub leaves_unused : (plan : Plan) (h : History) (line : Line) (d : DevId) → IsLawful plan (line ∷ h) → d.0 < length plan.devices → is_active (world plan h).views d ≡ true
    → is_active (world plan (line ∷ h)).views d ≡ false → ((device (world plan h).views d).usage ≡ 0) ⊎ (forces d line.event ≡ true)
leaves_unused plan h line d lawful within up down =
    let v = (world plan h).views in
    let kind = line_kind plan h line lawful in
    let turned : is_active_status (unwrap_or (says kind.kind d) (device v d).status) ≡ false = ap is_active_status (sym (kind.status d within)) ∙ down in
    let owned = owned_at plan h line kind d (lawful_holds plan h lawful.2) within in
    elim (leaves plan v d kind.kind line.event (tally (at_part any_phase d) kind.others) kind.event kind.guard owned up turned) [
      | inl rest ↦ inl (unused (device v d).usage (rests_so plan v d rest).unused)
      | inr force ↦ inr force
    ]

-- and its usage covers the callers' share
pub stays : (plan : Plan) (h : History) (line : Line) (d : DevId) → IsLawful plan (line ∷ h) → is_active (world plan h).views d ≡ true → lets_go plan d h line ≡ false
    → is_active (world plan (line ∷ h)).views d ≡ true
stays plan h line d lawful up keeps = go (is_active next.views d) refl
  where
    w : World
    w = world plan h

    next : World
    next = world plan (line ∷ h)

    before : Holds plan w
    before = lawful_holds plan h lawful.2

    p : Paid plan w line
    p = permitted plan h line lawful.0 before

    has : (nat_eq (device next.views d).share 0 ≡ false) × (forces d line.event ≡ false)
    has = neither _ _ keeps

    within : d.0 < length plan.devices
    within = share_within plan next d (lawful_holds plan (line ∷ h) lawful) has.0

    -- where there was no share a caller takes one, and then no status changes
    shared : (b : Bool) → takes is_callers d line.event ≡ b → (device w.views d).share ≡ 0 → is_active next.views d ≡ true
    shared true t low =
        let still : is_active_status (said line.event w.views d) ≡ true = rw (taken_still d line.event t) up in
        ap is_active_status (status_next plan h line d p within) ∙ still
    shared false t low =
        let moves = share_next plan h line d p within in
        let none : one (takes is_callers d line.event) ≡ 0 = rw t refl in
        differ (no_share (device next.views d).share (omega arith)) has.0

    rested : (device w.views d).usage ≡ 0 → is_active next.views d ≡ true
    rested idle = let adds = before.counts d within in shared (takes is_callers d line.event) refl (omega (arith, idle))

    go : (b : Bool) → is_active next.views d ≡ b → is_active next.views d ≡ true
    go true a = a
    go false a = elim (leaves_unused plan h line d lawful within up a) [ inl idle ↦ rested idle | inr force ↦ differ force has.1 ]
