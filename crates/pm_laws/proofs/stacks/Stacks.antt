-- The stacks of all actors keep their shape, after every lawful list of lines.
use Rattle.std.proofs.Common.{ℕ, zero, suc, ◌≡◌, ◌<◌, ◌≤◌, Bool, true, false, ◌&&◌, List, [], ◌∷◌, Some, drop, length, map, slice_get, slice_set, slice_index_or, ap, refl, sym, ◌∙◌, subst, inl, inr, arith}
use Rattle.std.specs.Option.{option_and_then, unwrap_or}
use Rattle.std.proofs.lemmas.Bool.{false≢true}
use Rattle.std.proofs.lemmas.Bool.Decides.{eqb_tells}
use Rattle.std.proofs.lemmas.List.{get_or-set_other}
use Rattle.std.proofs.lemmas.Grind.{get_or-set_at}
use Rattle.std.proofs.lemmas.Option.{slice_get_within}
use Rattle.pm_base.specs.declared.ActorId.{ActorId}
use Rattle.pm_base.specs.declared.ActorId.TheVariants.{Caller, Work, Timer}
use Rattle.pm_base.specs.declared.DevId.{DevId}
use Rattle.pm_base.specs.declared.Why.TheVariants as why
use Rattle.pm_model.specs.declared.event.Event.{Event}
use Rattle.pm_model.specs.declared.event.Event.TheVariants as event
use Rattle.pm_model.specs.declared.event.Line.{Line}
use Rattle.pm_model.specs.declared.event.Word.TheVariants as word
use Rattle.pm_model.specs.declared.plan.Plan.{Plan}
use Rattle.pm_model.specs.declared.rows.LinkRow.{LinkRow}
use Rattle.pm_model.specs.declared.stage.Change.{Change}
use Rattle.pm_model.specs.declared.stage.Change.TheVariants as change
use Rattle.pm_model.specs.declared.stage.Stage.{Stage}
use Rattle.pm_model.specs.declared.stage.Stage.TheVariants as stage
use Rattle.pm_model.specs.ChangeViews.{change_views}
use Rattle.pm_model.specs.Counted.{is_same, only_if, says_held}
use Rattle.pm_model.specs.Events.{by_event}
use Rattle.pm_model.specs.Handing.{after_then}
use Rattle.pm_model.specs.Lawful.{IsLawful, last_time}
use Rattle.pm_model.specs.Row.{Row, writes}
use Rattle.pm_model.specs.Views.{Views, is_held}
use Rattle.pm_model.specs.World.{World, row, place, with_place, after_line, start, world}
use Rattle.pm_laws.proofs.counts.Places.{IsPlaced, is_placed}
use Rattle.pm_laws.proofs.counts.Runs.{Holds, Paid, permitted, lawful_holds, views_after}
use Rattle.pm_laws.proofs.counts.Switches.{held_after}
use Rattle.pm_laws.specs.stacks.Fit.{HasDelays}
use Rattle.pm_laws.specs.stacks.Shape.{Fits, call_of, IsNested, AreNested}
use Rattle.pm_laws.proofs.stacks.Found.{HeldAreRuntime}
use Rattle.pm_laws.proofs.stacks.Nesting.{Gives, Nesting, nested_goes, stands_nested}
use Rattle.pm_laws.proofs.stacks.Obeying.{Duty, Obeys}
use Rattle.pm_laws.proofs.stacks.OtherNests.{idle_nests, helper_nests, control_nests}
use Rattle.pm_laws.proofs.stacks.OtherTells.{helper_tells, control_tells}
use Rattle.pm_laws.proofs.stacks.PlanLaw.{pair_runtime}
use Rattle.pm_laws.proofs.stacks.ResumeNests.{resume_nests}
use Rattle.pm_laws.proofs.stacks.ResumeTells.{resume_tells}
use Rattle.pm_laws.proofs.stacks.Sounding.{AreSound, HasBegunBy, HasBegunMore, all_later, rest_sound, stands_sound, then_sound}
use Rattle.pm_laws.proofs.stacks.Standing.{Stands, stands}
use Rattle.pm_laws.proofs.stacks.Steady.{IsDelayed, has_begun_now, line_begins, line_delays, start_delays}
use Rattle.pm_laws.proofs.stacks.SuspendNests.{suspend_nests}
use Rattle.pm_laws.proofs.stacks.SuspendTells.{suspend_tells, idle_tells}
use Rattle.pm_laws.proofs.stacks.Telling.{IsChanging, IsSound, IsTelling, Telling}
use Rattle.pm_laws.proofs.stacks.Tests.{same_device}

-- what each place has, it has where one place is replaced by a stack that has it
stack_set : (P : ℕ → List Stage → Type 0) (stacks : List (List Stage)) (i j : ℕ) (stack : List Stage) → i < length stacks → P i stack → P j (slice_index_or stacks j [])
    → P j (slice_index_or (slice_set stacks i stack) j [])
stack_set P stacks i j stack within new old =
    elim (eqb_tells j i) [
      | inl q ↦ subst (P j) (sym (get_or-set_at stacks i j stack [] q.1 within)) (subst (λ k. P k stack) (sym q.1) new)
      | inr q ↦ subst (P j) (sym (get_or-set_other stacks i j stack [] q.1)) old
    ]

place_set : (P : ActorId → List Stage → Type 0) (w : World) (a b : ActorId) (stack : List Stage) → IsPlaced w a → P a stack → P b (place w b)
    → P b (place (with_place w a stack) b)
place_set P w (Caller c) (Caller d) stack placed new old = stack_set (λ i. P (Caller i)) w.caller_places c d stack placed new old
place_set P w (Work c) (Work d) stack placed new old = stack_set (λ i. P (Work i)) w.work_places c d stack placed new old
place_set P w (Timer c) (Timer d) stack placed new old = stack_set (λ i. P (Timer i)) w.timer_places c d stack placed new old
place_set P w (Caller c) b stack placed new old = old
place_set P w (Work c) b stack placed new old = old
place_set P w (Timer c) b stack placed new old = old

pub obeys_same : (P : Duty) (x r : Row) → Some x ≡ Some r → Obeys P x → Obeys P r
obeys_same P x r e o = let same : x ≡ r = cc in subst (Obeys P) same o

row_nests : (plan : Plan) (v : Views) (t : ℕ) (s : Stage) (r : Row) → HeldAreRuntime plan v → Fits plan s → row plan v s t ≡ Some r → Obeys (Nesting plan (call_of s)) r
row_nests plan v t (stage.Idle s) r runtime h e = obeys_same _ _ r e (idle_nests plan v t s)
row_nests plan v t (stage.Suspend s) r runtime h e = obeys_same _ _ r e (suspend_nests plan v t s h)
row_nests plan v t (stage.Resume s) r runtime h e = obeys_same _ _ r e (resume_nests plan v t s h)
row_nests plan v t (stage.Helper s) r runtime h e = obeys_same _ _ r e (helper_nests plan v t s h)
row_nests plan v t (stage.Control s) r runtime h e = obeys_same _ _ r e (control_nests plan v t s runtime h)
row_nests plan v t (stage.Await s) r runtime h e = cc

-- the row that writes the line
pub paid_row : (plan : Plan) (w : World) (line : Line) (p : Paid plan w line) → row plan w.views p.stage line.time ≡ Some (writes line.event p.change p.next)
paid_row plan w line p = ap (option_and_then (λ s. row plan w.views s line.time)) (sym p.stands) ∙ p.leads

-- each row tells what is the plan's
row_tells : (plan : Plan) (v : Views) (t : ℕ) (s : Stage) (r : Row) → HasDelays v → Fits plan s → IsSound plan v t s → row plan v s t ≡ Some r → Obeys (Telling plan v t) r
row_tells plan v t (stage.Idle s) r has fits (inside, small, good, since, told) e = obeys_same _ _ r e (idle_tells plan v t s inside small good)
row_tells plan v t (stage.Suspend s) r has fits (inside, small, good, since, told) e = obeys_same _ _ r e (suspend_tells plan v t s inside small good)
row_tells plan v t (stage.Resume s) r has fits (inside, small, good, since, told) e = obeys_same _ _ r e (resume_tells plan v t s inside small good fits)
row_tells plan v t (stage.Helper s) r has fits sound e = obeys_same _ _ r e (helper_tells plan v t s sound fits)
row_tells plan v t (stage.Control s) r has fits (inside, small, good, since, told) e = obeys_same _ _ r e (control_tells plan v t s has inside good told)
row_tells plan v t (stage.Await s) r has fits sound e = cc

-- all that is shown of the stacks and of the settings
pub record Stacked (plan : Plan) (w : World) (last : ℕ) : Type 0 where
  pub nested : AreNested plan w
  pub sound : (a : ActorId) → AreSound plan w.views last (place w a)
  pub delays : HasDelays w.views
  pub runtime : HeldAreRuntime plan w.views

-- a permitted line, and what its row tells and leaves
pub record Told (plan : Plan) (w : World) (line : Line) (p : Paid plan w line) : Type 0 where
  pub nests : Gives plan (call_of p.stage) p.next
  pub tells : Telling plan w.views line.time line.event p.change p.next

pub told : (plan : Plan) (w : World) (last : ℕ) (line : Line) (p : Paid plan w line) → Holds plan w → Stacked plan w last → last ≤ line.time → Told plan w line p
told plan w last line p holds k le =
    let placed = is_placed plan w line.actor p.stage holds.entries holds.places p.stands in
    let st = stands plan w line.actor p.stage p.stands in
    let nested = stands_nested plan p.stage (place w line.actor) st (k.nested line.actor) in
    let now = all_later plan w.views w.views last line.time (λ c d within. omega arith) le (place w line.actor) (k.sound line.actor) in
    let sound = stands_sound plan w line.time line.actor p.stage holds.places placed p.stands st now in
    record {
      nests = (row_nests plan w.views line.time p.stage _ k.runtime nested.1 (paid_row plan w line p)).paid;
      tells = (row_tells plan w.views line.time p.stage _ k.delays nested.1 sound (paid_row plan w line p)).paid;
    }

-- and the places after a line don't depend on the views
pub stack_placed : (P : ActorId → List Stage → Type 0) (w : World) (v : Views) (called : List ℕ) (a b : ActorId) (stack : List Stage) → IsPlaced w a → P a stack
    → ((b : ActorId) → P b (place w b)) → P b (place (with_place (record w { views = v; called = called }) a stack) b)
stack_placed P w v called a b stack placed new old = place_set P (record w { views = v; called = called }) a b stack (still a placed) new (same b)
  where
    still : (a : ActorId) → IsPlaced w a → IsPlaced (record w { views = v; called = called }) a
    still (Caller c) placed = placed
    still (Work d) placed = placed
    still (Timer d) placed = placed

    same : (b : ActorId) → P b (place (record w { views = v; called = called }) b)
    same (Caller d) = old (Caller d)
    same (Work d) = old (Work d)
    same (Timer d) = old (Timer d)

-- a link that is held after the line has pm_runtime, as it had before it, or as the row found it
held_by : (plan : Plan) (l : ℕ) (row : LinkRow) (e : Event) (old : Bool) → slice_get plan.links l ≡ Some row → IsTelling plan e → (old ≡ true → row.pm_runtime ≡ true)
    → unwrap_or (says_held row.consumer row.supplier e) old ≡ true → row.pm_runtime ≡ true
held_by plan l row (event.Get x (why.Link c)) old is tells was held = go (is_same row.supplier x) (is_same row.consumer c) refl refl held
  where
    go : (a b : Bool) → is_same row.supplier x ≡ a → is_same row.consumer c ≡ b → unwrap_or (only_if (a && b) true) old ≡ true → row.pm_runtime ≡ true
    go true true u v h =
        pair_runtime plan l tells.1.0 row is (rw (sym (same_device c row.consumer v), sym (same_device x row.supplier u)) tells.1.1)
    go true false u v h = was h
    go false b u v h = was h
held_by plan l row (event.Put x (why.Link c)) old is tells was held = go (is_same row.supplier x && is_same row.consumer c) held
  where
    go : (b : Bool) → unwrap_or (only_if b false) old ≡ true → row.pm_runtime ≡ true
    go true h = cc
    go false h = was h
held_by plan l row (event.State x word.ForcedSuspended) old is tells was held = go (is_same row.consumer x) held
  where
    go : (b : Bool) → unwrap_or (only_if b false) old ≡ true → row.pm_runtime ≡ true
    go true h = cc
    go false h = was h
held_by plan l row (event.State x w) old is tells was held = was held
held_by plan l row (event.Get x w) old is tells was held = was held
held_by plan l row (event.Put x w) old is tells was held = was held
held_by plan l row e old is tells was held = was held

changing_delays : (plan : Plan) (c : Change) → IsChanging plan c → IsDelayed c
changing_delays plan (change.Set d u n) is = is.1
changing_delays plan c is = tt

-- all of it holds after the line
stacked_line : (plan : Plan) (w : World) (last : ℕ) (line : Line) (p : Paid plan w line) → Holds plan w → Stacked plan w last → last ≤ line.time
    → Stacked plan (after_line plan w line (Some (writes line.event p.change p.next))) line.time
stacked_line plan w last line p holds k le = record {
  nested = λ b. stack_placed (λ _. IsNested plan) w after _ line.actor b stack placed (nested_goes plan p.stage (place w line.actor) p.next st (λ fits. it.nests) (k.nested line.actor)) k.nested;
  sound = λ b. subst (λ x. AreSound plan x line.time (place now b)) (sym views_are) (stack_placed (λ _. AreSound plan after line.time) w after _ line.actor b stack placed sound_stack (λ b. later (place w b) (k.sound b)));
  delays = subst HasDelays (sym views_are) (line_delays plan line.time line.event p.change w.views k.delays (changing_delays plan p.change it.tells.1));
  runtime = subst (HeldAreRuntime plan) (sym views_are) runtime_now;
}
  where
    it : Told plan w line p
    it = told plan w last line p holds k le

    placed : IsPlaced w line.actor
    placed = is_placed plan w line.actor p.stage holds.entries holds.places p.stands

    st : Stands p.stage (place w line.actor)
    st = stands plan w line.actor p.stage p.stands

    after : Views
    after = by_event plan line.time line.event (change_views plan line.time p.change w.views)

    stack : List Stage
    stack = after_then p.next (drop 1 (place w line.actor))

    now : World
    now = after_line plan w line (Some (writes line.event p.change p.next))

    views_are : now.views ≡ after
    views_are = views_after plan w line p.change p.next

    within : (d : DevId) → d.0 < length plan.devices → d.0 < length (change_views plan line.time p.change w.views).devices
    within d in_plan = omega (arith, in_plan, p.beside.entries.devices)

    more : HasBegunMore plan w.views after
    more j d in_plan = line_begins plan line.time line.event p.change w.views j d (within d in_plan)

    by : HasBegunBy plan line.event after
    by j d in_plan is = rw is (has_begun_now plan line.time j (change_views plan line.time p.change w.views) d (within d in_plan))

    later : (stack : List Stage) → AreSound plan w.views last stack → AreSound plan after line.time stack
    later stack all = all_later plan w.views after last line.time more le stack all

    sound_stack : AreSound plan after line.time stack
    sound_stack = then_sound plan w.views after line.time line.event p.next (drop 1 (place w line.actor)) by it.tells.2 (rest_sound plan after line.time (place w line.actor) (later (place w line.actor) (k.sound line.actor)))

    runtime_now : HeldAreRuntime plan after
    runtime_now l row is held =
        let same : is_held (change_views plan line.time p.change w.views) l ≡ is_held w.views l = ap (λ (x : List Bool). slice_index_or x l false) p.beside.untouched.held in
        let turned = held_after plan line.time line.event (change_views plan line.time p.change w.views) l row (record { row_is = is; within = omega (arith, p.beside.entries.held, slice_get_within plan.links l row is) }) in
        held_by plan l row line.event (is_held (change_views plan line.time p.change w.views) l) is it.tells.0 (λ was. k.runtime l row is (sym same ∙ was)) (sym turned ∙ held)

-- every place is empty before any line
empty_at : {A : Type 0} (l : List A) (i : ℕ) → (let none : List Stage = [] in slice_index_or (map (λ _. none) l) i none ≡ none)
empty_at [] i = refl
empty_at (x ∷ l) zero = refl
empty_at (x ∷ l) (suc i) = empty_at l i

pub empty_place : (plan : Plan) (a : ActorId) → place (start plan) a ≡ []
empty_place plan (Caller c) = empty_at plan.callers c
empty_place plan (Work d) = empty_at plan.devices d
empty_place plan (Timer d) = empty_at plan.devices d

none_held : {A : Type 0} (l : List A) (i : ℕ) → slice_index_or (map (λ _. false) l) i false ≡ false
none_held [] i = refl
none_held (x ∷ l) zero = refl
none_held (x ∷ l) (suc i) = none_held l i

start_stacked : (plan : Plan) → Stacked plan (start plan) 0
start_stacked plan = record {
  nested = λ a. rw (empty_place plan a) tt;
  sound = λ a. rw (empty_place plan a) tt;
  delays = start_delays plan;
  runtime = λ l row is held. absurd (false≢true (sym (none_held plan.links l) ∙ held));
}

pub stacked : (plan : Plan) (h : List Line) → IsLawful plan h → Stacked plan (world plan h) (last_time h)
stacked plan [] lawful = start_stacked plan
stacked plan (line ∷ h) lawful =
    let holds = lawful_holds plan h lawful.2 in
    let p = permitted plan h line lawful.0 holds in
    subst (λ r. Stacked plan (after_line plan (world plan h) line r) line.time) (sym p.leads) (stacked_line plan (world plan h) (last_time h) line p holds (stacked plan h lawful.2) lawful.0.in_time)

pub stacks_nest : (plan : Plan) (h : List Line) → IsLawful plan h → AreNested plan (world plan h)
stacks_nest plan h lawful = (stacked plan h lawful).nested
