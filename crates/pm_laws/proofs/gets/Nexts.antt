-- What a line makes of its actor's place, of errors and of held links.
use Rattle.std.proofs.Common.{ℕ, ◌≡◌, ◌<◌, ◌≤◌, inl, inr, Bool, true, false, List, [], ◌∷◌, Option, ℤ, length, drop, ap, refl, sym, ◌∙◌, subst, arith}
use Rattle.std.specs.List.{sum_by}
use Rattle.std.specs.Option.{unwrap_or}
use Rattle.std.proofs.lemmas.Bool.{cases_lt}
use Rattle.std.proofs.lemmas.Grind.{get_or-set_at}
use Rattle.std.proofs.lemmas.List.{get_or_past}
use Rattle.pm_base.specs.declared.ActorId.{ActorId}
use Rattle.pm_base.specs.declared.ActorId.TheVariants.{Caller, Work, Timer}
use Rattle.pm_base.specs.declared.DevId.{DevId}
use Rattle.pm_base.specs.declared.Status.{Status}
use Rattle.pm_base.specs.declared.Status.TheVariants as status
use Rattle.pm_model.specs.declared.event.Line.{Line}
use Rattle.pm_model.specs.declared.plan.Plan.{Plan}
use Rattle.pm_model.specs.declared.stage.Stage.{Stage}
use Rattle.pm_model.specs.declared.views.Device.{Device}
use Rattle.pm_model.specs.ChangeViews.{change_views}
use Rattle.pm_model.specs.Counted.{error_of, is_held_pair, says_error, says_held}
use Rattle.pm_model.specs.Derived.{is_active, is_active_status, is_resuming, is_resuming_status}
use Rattle.pm_model.specs.Events.{by_event}
use Rattle.pm_model.specs.Handing.{after_then}
use Rattle.pm_model.specs.History.{History}
use Rattle.pm_model.specs.Lawful.{IsLawful}
use Rattle.pm_model.specs.Views.{Views, device, fresh_device, is_held}
use Rattle.pm_model.specs.World.{World, after_line, counts_call, place, with_place, world}
use Rattle.pm_laws.specs.counts.Sums.{one}
use Rattle.pm_laws.specs.counts.Owners.{owns_resume}
use Rattle.pm_laws.proofs.counts.Places.{IsPlaced, tally_placed}
use Rattle.pm_laws.proofs.counts.Runs.{Holds, Paid}
use Rattle.pm_laws.proofs.counts.Said.{error_said, held_said, says_or}
use Rattle.pm_laws.specs.stacks.Shape.{IsLink}
use Rattle.pm_laws.proofs.safe.Steps.{differ}

-- the actor's place after its line
place_now : (w : World) (v : Views) (called : List ℕ) (a : ActorId) (stack : List Stage) → IsPlaced w a
    → place (with_place (record w { views = v; called = called }) a stack) a ≡ stack
place_now w v called (Caller c) stack placed = get_or-set_at w.caller_places c c stack [] refl placed
place_now w v called (Work d) stack placed = get_or-set_at w.work_places d d stack [] refl placed
place_now w v called (Timer d) stack placed = get_or-set_at w.timer_places d d stack [] refl placed

pub place_next : (plan : Plan) (h : History) (line : Line) (p : Paid plan (world plan h) line) → IsPlaced (world plan h) line.actor
    → place (world plan (line ∷ h)) line.actor ≡ after_then p.next (drop 1 (place (world plan h) line.actor))
place_next plan h line p placed =
    let w = world plan h in
    ap (λ r. place (after_line plan w line r) line.actor) p.leads
    ∙ place_now w (by_event plan line.time line.event (change_views plan line.time p.change w.views)) (counts_call line.actor line.event w.called) line.actor (after_then p.next (drop 1 (place w line.actor))) placed

-- a device's error after a line
pub error_next : (plan : Plan) (h : History) (line : Line) (d : DevId) → IsLawful plan (line ∷ h) → d.0 < length plan.devices
    → (device (world plan (line ∷ h)).views d).error ≡ unwrap_or (says_error d line.event) (device (world plan h).views d).error
error_next plan h line d lawful within =
    let says : Option ℤ = says_error d line.event in
    error_said plan (line ∷ h) d lawful within ∙ sym (says_or says (error_of h d)) ∙ ap (unwrap_or says) (sym (error_said plan h d lawful.2 within))

-- whether a link is held after a line
pub held_next : (plan : Plan) (h : History) (line : Line) (l : ℕ) (c s : DevId) → IsLawful plan (line ∷ h) → IsLink plan l c s
    → is_held (world plan (line ∷ h)).views l ≡ unwrap_or (says_held c s line.event) (is_held (world plan h).views l)
held_next plan h line l c s lawful link =
    subst (λ x. is_held (world plan (line ∷ h)).views l ≡ unwrap_or (says_held x s line.event) (is_held (world plan h).views l)) link.consumer
    (subst (λ y. is_held (world plan (line ∷ h)).views l ≡ unwrap_or (says_held link.row.consumer y line.event) (is_held (world plan h).views l)) link.supplier said_now)
  where
    says : Option Bool
    says = says_held link.row.consumer link.row.supplier line.event

    said_now : is_held (world plan (line ∷ h)).views l ≡ unwrap_or says (is_held (world plan h).views l)
    said_now =
        held_said plan (line ∷ h) l link.row lawful link.is ∙ sym (says_or says (is_held_pair h link.row.consumer link.row.supplier))
        ∙ ap (unwrap_or says) (sym (held_said plan h l link.row lawful.2 link.is))

-- an Active device is one of the plan's
pub active_within : (plan : Plan) (w : World) (d : DevId) → Holds plan w → is_active w.views d ≡ true → d.0 < length plan.devices
active_within plan w d known up = elim (cases_lt d.0 (length plan.devices)) [ inl lt ↦ lt | inr le ↦ absurd (past le) ]
  where
    past : length plan.devices ≤ d.0 → ⊥
    past le =
        let fresh : device w.views d ≡ fresh_device = get_or_past w.views.devices d.0 fresh_device (omega (arith, known.entries.devices)) in
        let down : is_active w.views d ≡ false = ap (λ (x : Device). is_active_status x.status) fresh in
        differ up down

-- in a place only one stage owns the resume of a device, and then this is Resuming
pub own_most : (plan : Plan) (w : World) (a : ActorId) (x : DevId) → Holds plan w → IsPlaced w a → x.0 < length plan.devices
    → sum_by (owns_resume x) (place w a) ≤ one (is_resuming w.views x)
own_most plan w a x known placed within =
    let moved = tally_placed (owns_resume x) w a [] placed in
    let owners = known.owners.resuming x within in
    let none : sum_by (owns_resume x) [] ≡ 0 = refl in
    omega (arith, moved, owners, none)

pub one_resuming : (b : Bool) → 1 ≤ one b → b ≡ true
one_resuming true le = refl
one_resuming false le = absurd (omega (arith, le))

-- a device isn't both
pub apart : {A : Type 0} (s : Status) → is_active_status s ≡ true → is_resuming_status s ≡ true → A
apart status.Active up moves = cc
apart _ up moves = cc
