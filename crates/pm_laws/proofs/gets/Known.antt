-- What is known of a line that doesn't disturb.
use Rattle.std.proofs.Common.{ℕ, ◌≡◌, ◌<◌, ◌≤◌, ◌⊎◌, inl, inr, Bool, true, false, not, [], ◌∷◌, None, pos, length, nat_lt, if◌then◌else◌, ap, refl, sym, ◌∙◌, subst, arith}
use Rattle.std.specs.List.{list_all}
use Rattle.std.specs.Option.{unwrap_or}
use Rattle.std.specs.Ordering.{int_eq}
use Rattle.std.proofs.lemmas.Bool.{cases_lt, ltb-true}
use Rattle.std.proofs.lemmas.List.{get_or_past}
use Rattle.pm_base.specs.declared.ActorId.{ActorId}
use Rattle.pm_base.specs.declared.Cb.TheVariants as cb
use Rattle.pm_base.specs.declared.DevId.{DevId}
use Rattle.pm_base.specs.declared.Status.{Status}
use Rattle.pm_base.specs.declared.Status.TheVariants as status
use Rattle.pm_model.specs.declared.event.Event.{Event}
use Rattle.pm_model.specs.declared.event.Event.TheVariants as event
use Rattle.pm_model.specs.declared.event.Line.{Line}
use Rattle.pm_model.specs.declared.plan.Plan.{Plan}
use Rattle.pm_model.specs.declared.views.Device.{Device}
use Rattle.pm_model.specs.Counted.{error_of, is_same, only_if, says_error, word_status}
use Rattle.pm_model.specs.Derived.{has_error, is_active, is_active_status, is_disabled}
use Rattle.pm_model.specs.Excuse.{forces}
use Rattle.pm_model.specs.History.{History}
use Rattle.pm_model.specs.Lawful.{IsLawful}
use Rattle.pm_model.specs.Promises.{disturbs}
use Rattle.pm_model.specs.Views.{Views, device, fresh_device}
use Rattle.pm_model.specs.World.{World, place, world}
use Rattle.pm_laws.specs.counts.Counts.{holds}
use Rattle.pm_laws.proofs.counts.Rows.{said}
use Rattle.pm_laws.proofs.counts.Runs.{Holds, lawful_holds}
use Rattle.pm_laws.proofs.counts.Said.{error_said, says_or}
use Rattle.pm_laws.proofs.stacks.Stacks.{stacks_nest}
use Rattle.pm_laws.proofs.stacks.Telling.{IsTelling}
use Rattle.pm_laws.proofs.stacks.Tests.{front, rear, not_true, same_device}
use Rattle.pm_laws.proofs.safe.Steps.{differ}
use Rattle.pm_laws.specs.gets.Answered.{some_of}
use Rattle.pm_laws.proofs.gets.Staying.{leaves_unused}
use Rattle.pm_laws.specs.gets.Undisturbed.{is_bad, needs_up}
use Rattle.pm_laws.proofs.gets.Bools.{good_is}
use Rattle.pm_laws.proofs.gets.Needing.{stack_held, placed_some, some_stage, place_most}

-- no line has disturbed
abbrev pub is_calm : History → Bool
is_calm h = list_all (λ line. not (disturbs line.event)) h

pub calm_parts : (line : Line) (h : History) → is_calm (line ∷ h) ≡ true → (disturbs line.event ≡ false) × (is_calm h ≡ true)
calm_parts line h e = (not_true (disturbs line.event) (front (not (disturbs line.event)) (is_calm h) e), rear (not (disturbs line.event)) (is_calm h) e)

-- then no device has an error
calm_says : (d : DevId) (e : Event) → disturbs e ≡ false → says_error d e ≡ None
calm_says d (event.End x cb.Resume c) calm = let k : int_eq c (pos 0) ≡ true = good_is _ calm in rw k refl
calm_says d (event.End x cb.Suspend c) calm = let k : int_eq c (pos 0) ≡ true = good_is _ calm in rw k refl
calm_says d (event.State x w) calm = rw calm refl
calm_says d _ calm = refl

no_error : (h : History) (d : DevId) → is_calm h ≡ true → error_of h d ≡ pos 0
no_error [] d calm = refl
no_error (line ∷ h) d calm =
    let c = calm_parts line h calm in
    sym (says_or (says_error d line.event) (error_of h d)) ∙ ap (λ o. unwrap_or o (error_of h d)) (calm_says d line.event c.0) ∙ no_error h d c.1

fresh_at : (plan : Plan) (w : World) (d : DevId) → Holds plan w → length plan.devices ≤ d.0 → device w.views d ≡ fresh_device
fresh_at plan w d known past = get_or_past w.views.devices d.0 fresh_device (omega (arith, known.entries.devices))

pub errors : (plan : Plan) (h : History) (d : DevId) → IsLawful plan h → is_calm h ≡ true → has_error (world plan h).views d ≡ false
errors plan h d lawful calm = elim (cases_lt d.0 (length plan.devices)) [
  | inl lt ↦ ap (λ c. not (int_eq c (pos 0))) (error_said plan h d lawful lt ∙ no_error h d calm)
  | inr le ↦ ap (λ (y : Device). not (int_eq y.error (pos 0))) (fresh_at plan (world plan h) d (lawful_holds plan h lawful) le)
]

-- a device that is Active, or enabled, is one of the plan's
pub active_within : (plan : Plan) (w : World) (d : DevId) → Holds plan w → is_active w.views d ≡ true → d.0 < length plan.devices
active_within plan w d known up = elim (cases_lt d.0 (length plan.devices)) [
  | inl lt ↦ lt
  | inr le ↦ let down : is_active w.views d ≡ false = ap (λ (y : Device). is_active_status y.status) (fresh_at plan w d known le) in differ up down
]

pub enabled_within : (plan : Plan) (w : World) (d : DevId) → Holds plan w → is_disabled w.views d ≡ false → d.0 < length plan.devices
enabled_within plan w d known enabled = elim (cases_lt d.0 (length plan.devices)) [
  | inl lt ↦ lt
  | inr le ↦ let off : is_disabled w.views d ≡ true = ap (λ (y : Device). nat_lt 0 y.depth) (fresh_at plan w d known le) in differ off enabled
]

-- and so is one that an event turns to Active
one_of : (b : Bool) (s st : Status) → is_active_status (unwrap_or (only_if b s) st) ≡ true → (b ≡ true) ⊎ (is_active_status st ≡ true)
one_of true s st e = inl refl
one_of false s st e = inr e

named_within : (n : ℕ) (d x : DevId) → is_same d x ≡ true → nat_lt x.0 n ≡ true → d.0 < n
named_within n d x same within = subst (λ (y : DevId). y.0 < n) (same_device x d same) (ltb-true x.0 n within)

pub spoken_within : (plan : Plan) (v : Views) (d : DevId) (e : Event) → IsTelling plan e → is_active_status (said e v d) ≡ true → (d.0 < length plan.devices) ⊎ (is_active v d ≡ true)
spoken_within plan v d (event.State x w) tells up = elim (one_of (is_same d x) (word_status w) (device v d).status up) [
  | inl same ↦ inl (named_within _ d x same tells)
  | inr was ↦ inr was
]
spoken_within plan v d (event.Begin x cb.Suspend) tells up = elim (one_of (is_same d x) status.Suspending (device v d).status up) [
  | inl same ↦ inl (named_within _ d x same tells)
  | inr was ↦ inr was
]
spoken_within plan v d (event.End x cb.Suspend c) tells up = go (int_eq c (pos 0)) up
  where
    go : (b : Bool) → is_active_status (unwrap_or (if b then None else only_if (is_same d x) status.Active) (device v d).status) ≡ true → (d.0 < length plan.devices) ⊎ (is_active v d ≡ true)
    go true up = inr up
    go false up = elim (one_of (is_same d x) status.Active (device v d).status up) [
      | inl same ↦ inl (named_within (length plan.devices) d x same tells.0)
      | inr was ↦ inr was
    ]
spoken_within plan v d _ tells up = inr up

forced_disturbs : (d : DevId) (e : Event) → forces d e ≡ true → disturbs e ≡ true
forced_disturbs d (event.State x w) f = front _ _ f
forced_disturbs d _ f = cc

-- a device that is used stays Active over a line that doesn't disturb
pub stays_up : (plan : Plan) (h : History) (line : Line) (d : DevId) → IsLawful plan (line ∷ h) → disturbs line.event ≡ false → 1 ≤ (device (world plan h).views d).usage
    → is_active (world plan h).views d ≡ true → is_active (world plan (line ∷ h)).views d ≡ true
stays_up plan h line d lawful calm used up = go (is_active (world plan (line ∷ h)).views d) refl
  where
    known : Holds plan (world plan h)
    known = lawful_holds plan h lawful.2

    go : (b : Bool) → is_active (world plan (line ∷ h)).views d ≡ b → is_active (world plan (line ∷ h)).views d ≡ true
    go true a = a
    go false a = elim (leaves_unused plan h line d lawful (active_within plan (world plan h) d known up) up a) [
      | inl idle ↦ absurd (omega (arith, used, idle))
      | inr force ↦ differ (forced_disturbs d line.event force) calm
    ]

-- what a place needs Active is used
pub needed_used : (plan : Plan) (h : History) (a : ActorId) (d x : DevId) (enabled : Bool) → IsLawful plan h → d.0 < length plan.devices
    → some_of (is_bad plan x enabled) (place (world plan h) a) ≡ false → some_of (needs_up plan d) (place (world plan h) a) ≡ true → 1 ≤ (device (world plan h).views d).usage
needed_used plan h a d x enabled lawful within good needs =
    let w = world plan h in
    let known = lawful_holds plan h lawful in
    let adds = known.counts d within in
    let held = stack_held plan d x enabled (place w a) good needs (stacks_nest plan h lawful a) in
    let most = place_most (holds plan d) w a (placed_some w a (some_stage (needs_up plan d) (place w a) needs)) in
    omega (arith, held, most)
