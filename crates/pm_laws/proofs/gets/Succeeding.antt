-- While nothing disturbs, a get_sync of a device that was enabled at its call returns 0 or 1.
use Rattle.std.proofs.Common.{◌≡◌, ◌<◌, ◌⊎◌, inl, inr, Bool, true, false, not, ◌&&◌, List, [], ◌∷◌, Some, None, drop, length, ap, refl, sym, ◌∙◌, subst, arith}
use Rattle.pm_base.specs.declared.ActorId.{ActorId}
use Rattle.pm_base.specs.declared.DevId.{DevId}
use Rattle.pm_model.specs.declared.event.Event.{Event}
use Rattle.pm_model.specs.declared.event.Event.TheVariants as event
use Rattle.pm_model.specs.declared.event.Helper.TheVariants as helper
use Rattle.pm_model.specs.declared.event.Line.{Line}
use Rattle.pm_model.specs.declared.plan.Plan.{Plan}
use Rattle.pm_model.specs.declared.stage.HelperStage.TheVariants as at
use Rattle.pm_model.specs.declared.stage.Stage.{Stage}
use Rattle.pm_model.specs.declared.stage.Stage.TheVariants as stage
use Rattle.pm_model.specs.ChangeViews.{change_views}
use Rattle.pm_model.specs.Counted.{is_same, only_if}
use Rattle.pm_model.specs.Derived.{is_active, is_active_status, is_disabled}
use Rattle.pm_model.specs.Events.{by_event}
use Rattle.pm_model.specs.Handing.{after_then}
use Rattle.pm_model.specs.History.{History, at_each_line}
use Rattle.pm_model.specs.Lawful.{IsLawful, last_time}
use Rattle.pm_model.specs.Promises.{implies, is_actor, calls_get_sync, was_enabled, returns_well, gets_succeed}
use Rattle.pm_model.specs.Views.{Views}
use Rattle.pm_model.specs.World.{World, place, after_line, counts_call, start, world}
use Rattle.pm_laws.proofs.counts.Links.{neither}
use Rattle.pm_laws.proofs.counts.Places.{IsPlaced, is_placed}
use Rattle.pm_laws.proofs.counts.Runs.{Holds, Paid, permitted, lawful_holds}
use Rattle.pm_laws.proofs.counts.Said.{views_next}
use Rattle.pm_laws.specs.stacks.Shape.{call_of, IsNested, Nested}
use Rattle.pm_laws.proofs.stacks.Nesting.{stands_nested}
use Rattle.pm_laws.proofs.stacks.Stacks.{empty_place, paid_row, stack_placed, stacked, stacks_nest, told}
use Rattle.pm_laws.proofs.stacks.Standing.{Stands, stands}
use Rattle.pm_laws.proofs.stacks.Telling.{IsTelling}
use Rattle.pm_laws.proofs.stacks.Tests.{not_true, same_self}
use Rattle.pm_laws.specs.safe.Pends.{is_up}
use Rattle.pm_laws.proofs.safe.Steps.{differ}
use Rattle.pm_laws.proofs.gets.Keeping.{implied, same_actor}
use Rattle.pm_laws.proofs.gets.Handing.{own_awaited}
use Rattle.pm_laws.proofs.gets.Staying.{status_next}
use Rattle.pm_laws.specs.gets.Answered.{some_of}
use Rattle.pm_laws.proofs.gets.Passing.{or_front, or_rear, then_below, IsLight, stands_some}
use Rattle.pm_laws.specs.gets.Undisturbed.{fits, is_bad, ends_badly, needs_up, brings_up, needs_enabled, no_end}
use Rattle.pm_laws.proofs.gets.Bools.{good_is}
use Rattle.pm_laws.proofs.gets.Calmly.{Calm, is_call, is_call_stage, returns_badly}
use Rattle.pm_laws.proofs.gets.Depths.{stays_enabled}
use Rattle.pm_laws.proofs.gets.SuccessHanding.{bad_passes, up_passes, enabled_passes}
use Rattle.pm_laws.proofs.gets.Known.{is_calm, calm_parts, errors, active_within, enabled_within, spoken_within, stays_up, needed_used}
use Rattle.pm_laws.proofs.gets.OtherRows.{row_calm}

-- what holds after every lawful list that nothing disturbs
pub record Calmed (plan : Plan) (h : History) : Type 0 where
  pub enabled : (a : ActorId) (x : DevId) → was_enabled plan x a h ≡ true → is_disabled (world plan h).views x ≡ false
  pub good : (a : ActorId) (x : DevId) → some_of (is_bad plan x (was_enabled plan x a h)) (place (world plan h) a) ≡ false
  pub up : (a : ActorId) (d : DevId) → some_of (needs_up plan d) (place (world plan h) a) ≡ true → is_active (world plan h).views d ≡ true
  pub ready : (a : ActorId) (d : DevId) → some_of (needs_enabled d) (place (world plan h) a) ≡ true → is_disabled (world plan h).views d ≡ false

-- a stage that starts at an empty place passes no test
bad_light : (plan : Plan) (x : DevId) (enabled : Bool) → IsLight (is_bad plan x enabled)
bad_light plan x enabled (stage.Helper (at.Call c)) is = refl
bad_light plan x enabled (stage.Helper (at.Work d)) is = refl
bad_light plan x enabled (stage.Helper (at.Timer d)) is = refl
bad_light plan x enabled _ is = elim is [ ]

up_light : (plan : Plan) (d : DevId) → IsLight (needs_up plan d)
up_light plan d (stage.Helper (at.Call c)) is = refl
up_light plan d (stage.Helper (at.Work e)) is = refl
up_light plan d (stage.Helper (at.Timer e)) is = refl
up_light plan d _ is = elim is [ ]

enabled_light : (d : DevId) → IsLight (needs_enabled d)
enabled_light d (stage.Helper (at.Call c)) is = refl
enabled_light d (stage.Helper (at.Work e)) is = refl
enabled_light d (stage.Helper (at.Timer e)) is = refl
enabled_light d _ is = elim is [ ]

-- nothing stands below a call line's stage
call_alone : (plan : Plan) (x : DevId) (enabled : Bool) (s : Stage) (rest : List Stage) → is_call_stage s ≡ true → Nested plan (call_of s) rest
    → some_of (is_bad plan x enabled) (s ∷ rest) ≡ false
call_alone plan x enabled (stage.Helper (at.Call c)) rest is nested = go rest nested
  where
    go : (rest : List Stage) → Nested plan (call_of (stage.Helper (at.Call c))) rest → some_of (is_bad plan x enabled) (stage.Helper (at.Call c) ∷ rest) ≡ false
    go [] n = refl
    go (stage.Await a ∷ rest) n = absurd (own_awaited plan _ a n.0)
    go (s ∷ rest) n = elim n.0 [ ]
call_alone plan x enabled _ rest is nested = cc

-- whether x was enabled at an actor's last get_sync of it is as before, but for a call
no_call : (x : DevId) (e : Event) → is_call e ≡ false → calls_get_sync x e ≡ false
no_call x (event.Call c) is = cc
no_call x _ is = refl

and_off : (a b : Bool) → b ≡ false → a && b ≡ false
and_off true b e = e
and_off false b e = refl

off_and : (a b : Bool) → a ≡ false → a && b ≡ false
off_and true b e = cc
off_and false b e = refl

abbrev said_last : Bool → Bool → Bool → Bool
said_last a y z = elim (only_if a y) as (λ _. Bool) [ Some q ↦ q | None ↦ z ]

said_off : (a y z : Bool) → a ≡ false → said_last a y z ≡ z
said_off true y z e = cc
said_off false y z e = refl

said_true : (a y z : Bool) → said_last a y z ≡ true → (y ≡ true) ⊎ (z ≡ true)
said_true true y z e = inl e
said_true false y z e = inr e

same_enabling : (plan : Plan) (x : DevId) (a : ActorId) (line : Line) (h : History) → is_actor a line.actor && calls_get_sync x line.event ≡ false
    → was_enabled plan x a (line ∷ h) ≡ was_enabled plan x a h
same_enabling plan x a line h none = said_off (is_actor a line.actor && calls_get_sync x line.event) (not (is_disabled (world plan h).views x)) (was_enabled plan x a h) none

either_enabling : (plan : Plan) (x : DevId) (a : ActorId) (line : Line) (h : History) → was_enabled plan x a (line ∷ h) ≡ true
    → (not (is_disabled (world plan h).views x) ≡ true) ⊎ (was_enabled plan x a h ≡ true)
either_enabling plan x a line h e = said_true (is_actor a line.actor && calls_get_sync x line.event) (not (is_disabled (world plan h).views x)) (was_enabled plan x a h) e

-- what an actor's stack has after a line
abbrev Good : Plan → History → DevId → ActorId → List Stage → Type 0
Good plan h x a stack = some_of (is_bad plan x (was_enabled plan x a h)) stack ≡ false

abbrev Up : Plan → History → DevId → ActorId → List Stage → Type 0
Up plan h d a stack = some_of (needs_up plan d) stack ≡ true → is_active (world plan h).views d ≡ true

abbrev Enabled : Plan → History → DevId → ActorId → List Stage → Type 0
Enabled plan h d a stack = some_of (needs_enabled d) stack ≡ true → is_disabled (world plan h).views d ≡ false

-- the row that wrote the line, where nothing disturbs
pub record Lined (plan : Plan) (h : History) (line : Line) : Type 0 where
  pub paid : Paid plan (world plan h) line
  pub good : (x : DevId) → some_of (is_bad plan x (was_enabled plan x line.actor (line ∷ h))) (paid.stage ∷ drop 1 (place (world plan h) line.actor)) ≡ false
  pub calm : (x : DevId) → Calm plan x (was_enabled plan x line.actor (line ∷ h)) (world plan h).views paid.stage line.event paid.change paid.next
  pub well : (x : DevId) → returns_badly x (was_enabled plan x line.actor h) line.event ≡ false

lined : (plan : Plan) (h : History) (line : Line) → IsLawful plan (line ∷ h) → is_calm (line ∷ h) ≡ true → Calmed plan h → Lined plan h line
lined plan h line lawful calm was = record { paid = p; good = good_now; calm = calm_now; well = well_now }
  where
    w : World
    w = world plan h

    known : Holds plan w
    known = lawful_holds plan h lawful.2

    p : Paid plan w line
    p = permitted plan h line lawful.0 known

    rest : List Stage
    rest = drop 1 (place w line.actor)

    st : Stands p.stage (place w line.actor)
    st = stands plan w line.actor p.stage p.stands

    nested : IsNested plan (p.stage ∷ rest)
    nested = stands_nested plan p.stage (place w line.actor) st (stacks_nest plan h lawful.2 line.actor)

    good_then : (x : DevId) → some_of (is_bad plan x (was_enabled plan x line.actor h)) (p.stage ∷ rest) ≡ false
    good_then x = stands_some (is_bad plan x (was_enabled plan x line.actor h)) (bad_light plan x (was_enabled plan x line.actor h)) p.stage (place w line.actor) st ∙ was.good line.actor x

    row : (x : DevId) (enabled : Bool) → some_of (is_bad plan x enabled) (p.stage ∷ rest) ≡ false → (enabled ≡ true → is_disabled w.views x ≡ false)
        → Calm plan x enabled w.views p.stage line.event p.change p.next
    row x enabled good now =
        let fit = good_is (fits plan x enabled p.stage) (neither (is_bad plan x enabled p.stage) (some_of (is_bad plan x enabled) rest) good).0 in
        (row_calm plan x enabled w.views line.time p.stage _ nested.1 fit (λ d. errors plan h d lawful.2 (calm_parts line h calm).1)
        (λ d e. was.up line.actor d (sym (stands_some (needs_up plan d) (up_light plan d) p.stage (place w line.actor) st) ∙ or_front (needs_up plan d p.stage) (some_of (needs_up plan d) rest) e))
        (λ d e. was.ready line.actor d (sym (stands_some (needs_enabled d) (enabled_light d) p.stage (place w line.actor) st) ∙ or_front (needs_enabled d p.stage) (some_of (needs_enabled d) rest) e))
        now (paid_row plan w line p)).paid (calm_parts line h calm).0

    calm_then : (x : DevId) → Calm plan x (was_enabled plan x line.actor h) w.views p.stage line.event p.change p.next
    calm_then x = row x (was_enabled plan x line.actor h) (good_then x) (was.enabled line.actor x)

    good_now : (x : DevId) → some_of (is_bad plan x (was_enabled plan x line.actor (line ∷ h))) (p.stage ∷ rest) ≡ false
    good_now x = go (is_call line.event) refl
      where
        go : (b : Bool) → is_call line.event ≡ b → some_of (is_bad plan x (was_enabled plan x line.actor (line ∷ h))) (p.stage ∷ rest) ≡ false
        go true is = call_alone plan x (was_enabled plan x line.actor (line ∷ h)) p.stage rest ((calm_then x).called is) nested.2
        go false is =
            let same : was_enabled plan x line.actor (line ∷ h) ≡ was_enabled plan x line.actor h = same_enabling plan x line.actor line h (and_off (is_actor line.actor line.actor) (calls_get_sync x line.event) (no_call x line.event is)) in
            ap (λ b. some_of (is_bad plan x b) (p.stage ∷ rest)) same ∙ good_then x

    enabled_now : (x : DevId) → was_enabled plan x line.actor (line ∷ h) ≡ true → is_disabled w.views x ≡ false
    enabled_now x e = elim (either_enabling plan x line.actor line h e) [ inl now ↦ not_true _ now | inr then ↦ was.enabled line.actor x then ]

    calm_now : (x : DevId) → Calm plan x (was_enabled plan x line.actor (line ∷ h)) w.views p.stage line.event p.change p.next
    calm_now x = row x (was_enabled plan x line.actor (line ∷ h)) (good_now x) (enabled_now x)

    well_now : (x : DevId) → returns_badly x (was_enabled plan x line.actor h) line.event ≡ false
    well_now x = go (returns_badly x (was_enabled plan x line.actor h) line.event) refl
      where
        go : (b : Bool) → returns_badly x (was_enabled plan x line.actor h) line.event ≡ b → returns_badly x (was_enabled plan x line.actor h) line.event ≡ false
        go true is = differ ((calm_then x).well is) (neither (is_bad plan x (was_enabled plan x line.actor h) p.stage) (some_of (is_bad plan x (was_enabled plan x line.actor h)) rest) (good_then x)).0
        go false is = is

-- all of it holds after the line
calmed_line : (plan : Plan) (h : History) (line : Line) → IsLawful plan (line ∷ h) → is_calm (line ∷ h) ≡ true → Calmed plan h → Calmed plan (line ∷ h)
calmed_line plan h line lawful calm was = record { enabled = enabled; good = good; up = up; ready = ready }
  where
    w : World
    w = world plan h

    next : World
    next = world plan (line ∷ h)

    known : Holds plan w
    known = lawful_holds plan h lawful.2

    it : Lined plan h line
    it = lined plan h line lawful calm was

    rest : List Stage
    rest = drop 1 (place w line.actor)

    st : Stands it.paid.stage (place w line.actor)
    st = stands plan w line.actor it.paid.stage it.paid.stands

    nested : IsNested plan (it.paid.stage ∷ rest)
    nested = stands_nested plan it.paid.stage (place w line.actor) st (stacks_nest plan h lawful.2 line.actor)

    placed : IsPlaced w line.actor
    placed = is_placed plan w line.actor it.paid.stage known.entries known.places it.paid.stands

    after : Views
    after = by_event plan line.time line.event (change_views plan line.time it.paid.change w.views)

    still_enabled : (d : DevId) → is_disabled w.views d ≡ false → is_disabled next.views d ≡ false
    still_enabled d e =
        let within : d.0 < length plan.devices = enabled_within plan w d known e in
        ap (λ (v : Views). is_disabled v d) (views_next plan w line it.paid)
        ∙ stays_enabled plan line.time line.event it.paid.change w.views d (omega (arith, within, known.entries.devices)) (it.calm d).stays e

    still_up : (a : ActorId) (d : DevId) → some_of (needs_up plan d) (place w a) ≡ true → is_active next.views d ≡ true
    still_up a d needs =
        let up_then = was.up a d needs in
        stays_up plan h line d lawful (calm_parts line h calm).0 (needed_used plan h a d d (was_enabled plan d a h) lawful.2 (active_within plan w d known up_then) (was.good a d) needs) up_then

    enabled : (a : ActorId) (x : DevId) → was_enabled plan x a (line ∷ h) ≡ true → is_disabled next.views x ≡ false
    enabled a x e = still_enabled x (elim (either_enabling plan x a line h e) [ inl now ↦ not_true _ now | inr then ↦ was.enabled a x then ])

    -- every place after the line
    every : (P : ActorId → List Stage → Type 0) → P line.actor (after_then it.paid.next rest) → ((a : ActorId) → P a (place w a)) → (a : ActorId) → P a (place next a)
    every P new old a =
        subst (λ r. P a (place (after_line plan w line r) a)) (sym it.paid.leads)
        (stack_placed P w after (counts_call line.actor line.event w.called) line.actor a (after_then it.paid.next rest) placed new old)

    good : (a : ActorId) (x : DevId) → Good plan (line ∷ h) x a (place next a)
    good a x = every (Good plan (line ∷ h) x) mine others a
      where
        enabled_now : Bool
        enabled_now = was_enabled plan x line.actor (line ∷ h)

        mine : Good plan (line ∷ h) x line.actor (after_then it.paid.next rest)
        mine = go (some_of (is_bad plan x enabled_now) (after_then it.paid.next rest)) refl
          where
            go : (b : Bool) → some_of (is_bad plan x enabled_now) (after_then it.paid.next rest) ≡ b → some_of (is_bad plan x enabled_now) (after_then it.paid.next rest) ≡ false
            go false e = e
            go true e = elim (then_below plan (is_bad plan x enabled_now) (ends_badly x enabled_now) (bad_passes plan x enabled_now) (call_of it.paid.stage) it.paid.next rest nested.2 e) [
              | inl under ↦ differ under (neither (is_bad plan x enabled_now it.paid.stage) (some_of (is_bad plan x enabled_now) rest) (it.good x)).1
              | inr tl ↦ differ tl (it.calm x).good
            ]

        others : (b : ActorId) → Good plan (line ∷ h) x b (place w b)
        others b = go (is_actor b line.actor) refl
          where
            go : (m : Bool) → is_actor b line.actor ≡ m → Good plan (line ∷ h) x b (place w b)
            go true m =
                subst (λ a. Good plan (line ∷ h) x a (place w a)) (sym (same_actor b line.actor m))
                (sym (stands_some (is_bad plan x enabled_now) (bad_light plan x enabled_now) it.paid.stage (place w line.actor) st) ∙ it.good x)
            go false m =
                let same : was_enabled plan x b (line ∷ h) ≡ was_enabled plan x b h = same_enabling plan x b line h (off_and (is_actor b line.actor) (calls_get_sync x line.event) m) in
                ap (λ e. some_of (is_bad plan x e) (place w b)) same ∙ was.good b x

    up : (a : ActorId) (d : DevId) → Up plan (line ∷ h) d a (place next a)
    up a d = every (Up plan (line ∷ h) d) mine (λ b. still_up b d) a
      where
        before : some_of (needs_up plan d) (it.paid.stage ∷ rest) ≡ true → is_active next.views d ≡ true
        before e = still_up line.actor d (sym (stands_some (needs_up plan d) (up_light plan d) it.paid.stage (place w line.actor) st) ∙ e)

        tells_all : IsTelling plan line.event
        tells_all = (told plan w (last_time h) line it.paid known (stacked plan h lawful.2) lawful.0.in_time).tells.0

        mine : Up plan (line ∷ h) d line.actor (after_then it.paid.next rest)
        mine e = elim (then_below plan (needs_up plan d) (brings_up d) (up_passes plan d) (call_of it.paid.stage) it.paid.next rest nested.2 e) [
          | inl under ↦ before (or_rear (needs_up plan d it.paid.stage) (some_of (needs_up plan d) rest) under)
          | inr tl ↦ elim ((it.calm d).up d tl) [
            | inl here ↦ before (or_front (needs_up plan d it.paid.stage) (some_of (needs_up plan d) rest) here)
            | inr act ↦
                let within : d.0 < length plan.devices = elim (spoken_within plan w.views d line.event tells_all act) [ inl lt ↦ lt | inr was_up ↦ active_within plan w d known was_up ] in
                ap is_active_status (status_next plan h line d it.paid within) ∙ act
          ]
        ]

    ready : (a : ActorId) (d : DevId) → Enabled plan (line ∷ h) d a (place next a)
    ready a d = every (Enabled plan (line ∷ h) d) mine (λ b e. still_enabled d (was.ready b d e)) a
      where
        before : some_of (needs_enabled d) (it.paid.stage ∷ rest) ≡ true → is_disabled next.views d ≡ false
        before e = still_enabled d (was.ready line.actor d (sym (stands_some (needs_enabled d) (enabled_light d) it.paid.stage (place w line.actor) st) ∙ e))

        mine : Enabled plan (line ∷ h) d line.actor (after_then it.paid.next rest)
        mine e = elim (then_below plan (needs_enabled d) no_end (enabled_passes plan d) (call_of it.paid.stage) it.paid.next rest nested.2 e) [
          | inl under ↦ before (or_rear (needs_enabled d it.paid.stage) (some_of (needs_enabled d) rest) under)
          | inr tl ↦ elim ((it.calm d).ready d tl) [
            | inl here ↦ before (or_front (needs_enabled d it.paid.stage) (some_of (needs_enabled d) rest) here)
            | inr now ↦ still_enabled d now
          ]
        ]

calmed : (plan : Plan) (h : History) → IsLawful plan h → is_calm h ≡ true → Calmed plan h
calmed plan [] lawful calm = record {
  enabled = λ a x e. cc;
  good = λ a x. rw (empty_place plan a) refl;
  up = λ a d e. let none : some_of (needs_up plan d) (place (start plan) a) ≡ false = rw (empty_place plan a) refl in differ e none;
  ready = λ a d e. let none : some_of (needs_enabled d) (place (start plan) a) ≡ false = rw (empty_place plan a) refl in differ e none;
}
calmed plan (line ∷ h) lawful calm = calmed_line plan h line lawful calm (calmed plan h lawful.2 (calm_parts line h calm).1)

-- so each get_sync returns well
itself : (same enabled up : Bool) → same ≡ true → implies (same && enabled) up ≡ true → implies enabled up ≡ true
itself true enabled up is e = e
itself false enabled up is e = cc

well_now : (plan : Plan) (h : History) (a : ActorId) (e : Event) → ((x : DevId) → returns_badly x (was_enabled plan x a h) e ≡ false) → returns_well plan h a e ≡ true
well_now plan h a (event.Ret helper.GetSync d c) well =
    itself (is_same d d) (was_enabled plan d a h) (is_up c) (same_self d.0) (good_is (implies (is_same d d && was_enabled plan d a h) (is_up c)) (well d))
well_now plan h a (event.Ret _ d c) well = refl
well_now plan h a _ well = refl

each_well : (plan : Plan) (h : History) → IsLawful plan h → is_calm h ≡ true → at_each_line (λ g line. returns_well plan g line.actor line.event) h ≡ true
each_well plan [] lawful calm = refl
each_well plan (line ∷ h) lawful calm =
    let c = (calm_parts line h calm).1 in
    rw (well_now plan h line.actor line.event (lined plan h line lawful calm (calmed plan h lawful.2 c)).well) (each_well plan h lawful.2 c)

pub succeed : (plan : Plan) (h : History) → IsLawful plan h → gets_succeed plan h ≡ true
succeed plan h lawful = implied (is_calm h) (at_each_line (λ g line. returns_well plan g line.actor line.event) h) (each_well plan h lawful)
