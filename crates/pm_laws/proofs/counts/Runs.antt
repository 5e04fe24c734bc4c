-- What holds after every lawful list of lines.
use Rattle.std.proofs.Common.{ℕ, zero, suc, ◌≡◌, ◌+◌, ◌<◌, ◌≤◌, Bool, true, false, List, [], ◌∷◌, Option, Some, None, ℤ, length, map, drop, nat_eq, nat_lt, slice_index_or, if◌then◌else◌, ap, refl, sym, ◌∙◌, arith, subst, inl, inr}
use Rattle.std.specs.List.{enumerate_from}
use Rattle.std.specs.Option.{option_map, option_and_then, unwrap_or}
use Rattle.std.proofs.lemmas.Bool.{cases_lt, false≢true}
use Rattle.std.proofs.lemmas.List.{length-map}
use Rattle.std.proofs.lemmas.List.FromFn.{length-enumerate_from}
use Rattle.std.proofs.lemmas.Option.{slice_get_past}
use Rattle.pm_base.specs.declared.ActorId.{ActorId}
use Rattle.pm_base.specs.declared.ActorId.TheVariants.{Caller, Work, Timer}
use Rattle.pm_base.specs.declared.DevId.{DevId}
use Rattle.pm_base.specs.declared.Status.TheVariants.{Suspended}
use Rattle.pm_model.specs.declared.event.Event.{Event}
use Rattle.pm_model.specs.declared.event.Line.{Line}
use Rattle.pm_model.specs.declared.plan.Plan.{Plan}
use Rattle.pm_model.specs.declared.rows.DeviceRow.{DeviceRow}
use Rattle.pm_model.specs.declared.rows.LinkRow.{LinkRow}
use Rattle.pm_model.specs.declared.stage.Change.{Change}
use Rattle.pm_model.specs.declared.stage.Await.{Await}
use Rattle.pm_model.specs.declared.stage.Await.TheVariants as await
use Rattle.pm_model.specs.declared.stage.Handed.{Handed}
use Rattle.pm_model.specs.declared.stage.Move.TheVariants.{Write, Late, Wait}
use Rattle.pm_model.specs.declared.stage.Stage.{Stage}
use Rattle.pm_model.specs.declared.stage.Stage.TheVariants as stage
use Rattle.pm_model.specs.declared.stage.Then.{Then}
use Rattle.pm_model.specs.declared.views.Device.{Device}
use Rattle.pm_model.specs.ChangeViews.{change_views}
use Rattle.pm_model.specs.Counted.{says_status}
use Rattle.pm_model.specs.Derived.{is_moving, is_suspending, is_resuming, is_suspending_status, is_resuming_status}
use Rattle.pm_model.specs.Events.{by_event}
use Rattle.pm_model.specs.Handing.{take_code, after_then}
use Rattle.pm_model.specs.Lawful.{Permits, IsLawful}
use Rattle.pm_model.specs.PlanRows.{no_callbacks}
use Rattle.pm_model.specs.ResumeTable.{is_supplied}
use Rattle.pm_model.specs.Row.{Row, writes, waits, timed}
use Rattle.pm_model.specs.Views.{Views, fresh_device, device}
use Rattle.pm_model.specs.World.{World, row, due, place, with_place, stage_at, counts_call, after_line, row_at, start, world}
use Rattle.pm_laws.specs.counts.Sums.{one, tally, weigh}
use Rattle.pm_laws.specs.counts.Owners.{places, owns_suspend, owns_resume, HasOneOwner}
use Rattle.pm_laws.specs.counts.Counts.{holds, owed, told, AddsUp}
use Rattle.pm_laws.specs.counts.Sizes.{HasEntries, HasPlaces}
use Rattle.pm_laws.proofs.counts.ControlRows.{control_keeps}
use Rattle.pm_laws.proofs.counts.HelperRows.{helper_keeps}
use Rattle.pm_laws.proofs.counts.IdleRows.{idle_keeps}
use Rattle.pm_laws.proofs.counts.Links.{lent_of, lent_cons, one_and_false}
use Rattle.pm_laws.proofs.counts.Named.{Beside, beside}
use Rattle.pm_laws.proofs.counts.Places.{tally_joined, shown, IsHanded, IsWeight, IsPlaced, is_placed, tally_placed, then_keeps, stands_weighs, places_kept}
use Rattle.pm_laws.proofs.counts.ResumeRows.{resume_keeps}
use Rattle.pm_laws.proofs.counts.Rows.{Known, Keeps, Owes, said, is_moving_status}
use Rattle.pm_laws.proofs.counts.Seen.{status_of}
use Rattle.pm_laws.proofs.counts.SuspendRows.{suspend_keeps}
use Rattle.pm_laws.proofs.counts.Turns.{status_after, entries_after}

-- all parts of the invariant
pub record Holds (plan : Plan) (w : World) : Type 0 where
  pub entries : HasEntries plan w.views
  pub places : HasPlaces plan w
  pub settled : (d : DevId) → no_callbacks plan d ≡ true → is_moving w.views d ≡ false
  pub owners : HasOneOwner plan w
  pub counts : AddsUp plan w

-- the weights are the same where a stage awaits a call and where it goes on
either_handed : (f : Stage → ℕ) (a : Await) (b : Bool) (x y : Handed) → IsHanded f a x → IsHanded f a y → IsHanded f a (if b then x else y)
either_handed f a true x y p q = p
either_handed f a false x y p q = q

suspends_weigh : (d : DevId) → IsWeight (owns_suspend d)
unfolding take_code
suspends_weigh d = record { call = λ _. refl; work = λ _. refl; timer = λ _. refl; handed = go }
  where
    go : (a : Await) (c : ℤ) → IsHanded (owns_suspend d) a (take_code a c)
    go (await.ActiveSupplier e l) c = either_handed (owns_suspend d) (await.ActiveSupplier e l) (is_supplied c) _ _ refl refl
    go _ c = refl

resumes_weigh : (d : DevId) → IsWeight (owns_resume d)
unfolding take_code
resumes_weigh d = record { call = λ _. refl; work = λ _. refl; timer = λ _. refl; handed = go }
  where
    go : (a : Await) (c : ℤ) → IsHanded (owns_resume d) a (take_code a c)
    go (await.ActiveSupplier e l) c = either_handed (owns_resume d) (await.ActiveSupplier e l) (is_supplied c) _ _ refl refl
    go _ c = refl

holds_weigh : (plan : Plan) (d : DevId) → IsWeight (holds plan d)
unfolding take_code
holds_weigh plan d = record { call = λ _. refl; work = λ _. refl; timer = λ _. refl; handed = go }
  where
    go : (a : Await) (c : ℤ) → IsHanded (holds plan d) a (take_code a c)
    go (await.ActiveSupplier e l) c = either_handed (holds plan d) (await.ActiveSupplier e l) (is_supplied c) _ _ refl refl
    go _ c = refl

-- each row of the call table pays what it owes
same_row : (plan : Plan) (v : Views) (t : ℕ) (s : Stage) (x r : Row) → Some x ≡ Some r → Owes plan v t s x → Owes plan v t s r
same_row plan v t s x r e o = let same : x ≡ r = cc in subst (Owes plan v t s) same o

row_keeps : (plan : Plan) (v : Views) (t : ℕ) (s : Stage) (r : Row) → Known plan v → row plan v s t ≡ Some r → Owes plan v t s r
row_keeps plan v t (stage.Idle s) r k e = same_row plan v t (stage.Idle s) _ r e (idle_keeps plan v t s k)
row_keeps plan v t (stage.Suspend s) r k e = same_row plan v t (stage.Suspend s) _ r e (suspend_keeps plan v t s k)
row_keeps plan v t (stage.Resume s) r k e = same_row plan v t (stage.Resume s) _ r e (resume_keeps plan v t s k)
row_keeps plan v t (stage.Helper s) r k e = same_row plan v t (stage.Helper s) _ r e (helper_keeps plan v t s k)
row_keeps plan v t (stage.Control s) r k e = same_row plan v t (stage.Control s) _ r e (control_keeps plan v t s k)
row_keeps plan v t (stage.Await s) r k e = cc

-- a line that is permitted is written by its row
pub written : (due t : ℕ) (o : Option Row) (e : Event) (c : Change) (next : Then) → option_map (timed due t) o ≡ Some (Write e c next)
    → o ≡ Some (writes e c next)
written due t None e c next h = cc
written due t (Some (waits d)) e c next h = go (nat_lt t due) h
  where
    go : (b : Bool) → Some (if b then Late due else Wait d) ≡ Some (Write e c next) → Some (waits d) ≡ Some (writes e c next)
    go true h = cc
    go false h = cc
written due t (Some (writes e' c' next')) e c next h = go (nat_lt t due) h
  where
    go : (b : Bool) → Some (if b then Late due else Write e' c' next') ≡ Some (Write e c next) → Some (writes e' c' next') ≡ Some (writes e c next)
    go true h = cc
    go false h = cc

-- what all stages but an actor's top weigh
pub others : (Stage → ℕ) → World → ActorId → ℕ
others f w a = tally f (places (with_place w a (drop 1 (place w a))))

pub with_top : (f : Stage → ℕ) → IsWeight f → (plan : Plan) (w : World) (a : ActorId) (s : Stage) → IsPlaced w a → stage_at plan w a ≡ Some s
    → tally f (places w) ≡ f s + others f w a
unfolding others
with_top f is plan w a s placed stands =
    let whole = tally_placed f w a (drop 1 (place w a)) placed in
    let here = stands_weighs f is plan w a s stands in
    omega arith

pub with_next : (f : Stage → ℕ) → IsWeight f → (plan : Plan) (w : World) (a : ActorId) (s : Stage) (next : Then) → IsPlaced w a
    → stage_at plan w a ≡ Some s → tally f (places (with_place w a (after_then next (drop 1 (place w a))))) ≡ weigh f (shown next) + others f w a
unfolding others
with_next f is plan w a s next placed stands =
    let old = tally_placed f w a (drop 1 (place w a)) placed in
    let new = tally_placed f w a (after_then next (drop 1 (place w a))) placed in
    let top = then_keeps f is next (drop 1 (place w a)) in
    omega arith

-- the world after a line: its views, and its places
pub places_moved : (w : World) (v : Views) (called : List ℕ) (a : ActorId) (stack : List Stage)
    → places (with_place (record w { views = v; called = called }) a stack) ≡ places (with_place w a stack)
places_moved w v called (Caller c) stack = refl
places_moved w v called (Work d) stack = refl
places_moved w v called (Timer d) stack = refl

views_moved : (w : World) (v : Views) (called : List ℕ) (a : ActorId) (stack : List Stage)
    → (with_place (record w { views = v; called = called }) a stack).views ≡ v
views_moved w v called (Caller c) stack = refl
views_moved w v called (Work d) stack = refl
views_moved w v called (Timer d) stack = refl

pub views_after : (plan : Plan) (w : World) (line : Line) (c : Change) (next : Then)
    → (after_line plan w line (Some (writes line.event c next))).views ≡ by_event plan line.time line.event (change_views plan line.time c w.views)
views_after plan w line c next = views_moved w (by_event plan line.time line.event (change_views plan line.time c w.views)) (counts_call line.actor line.event w.called) line.actor (after_then next (drop 1 (place w line.actor)))

-- the counts on a device but those that an actor's top holds
pub held_top : (plan : Plan) (w : World) (a : ActorId) (s : Stage) (d : DevId) → Holds plan w → stage_at plan w a ≡ Some s → d.0 < length plan.devices
    → (device w.views d).usage ≡ owed plan w.views d + (holds plan d s + others (holds plan d) w a)
held_top plan w a s d h stands within =
    let placed = is_placed plan w a s h.entries h.places stands in
    let top = with_top (holds plan d) (holds_weigh plan d) plan w a s placed stands in
    let was = h.counts d within in
    omega arith

-- a device that the plan has no callbacks for is one of its devices
quiet_within : (plan : Plan) (d : DevId) → no_callbacks plan d ≡ true → d.0 < length plan.devices
unfolding no_callbacks
quiet_within plan d none = elim (cases_lt d.0 (length plan.devices)) [ inl lt ↦ lt | inr le ↦ absurd (past le) ]
  where
    past : length plan.devices ≤ d.0 → ⊥
    past le = let k : false ≡ true = rw (slice_get_past plan.devices d.0 le) at none in false≢true k

-- the status after the line
pub status_is : (plan : Plan) (t : ℕ) (e : Event) (v v' : Views) (d : DevId) → d.0 < length v'.devices → (device v' d).status ≡ (device v d).status
    → (device (by_event plan t e v') d).status ≡ said e v d
status_is plan t e v v' d within still = status_after plan t e v' d within ∙ ap (λ x. unwrap_or (says_status d e) x) still

-- the parts after a line whose row has paid
step : (plan : Plan) (w : World) (line : Line) (s : Stage) (c : Change) (next : Then) → Holds plan w
    → stage_at plan w line.actor ≡ Some s → Keeps plan w.views line.time s line.event c next
    → Holds plan (after_line plan w line (Some (writes line.event c next)))
step plan w line s c next h stands k =
    record { entries = entries_now; places = places_now; settled = settled_now; owners = owners_now; counts = counts_now }
  where
    v : Views
    v = w.views

    named : Beside plan w.views (change_views plan line.time c w.views)
    named = beside plan line.time c w.views h.entries

    after : Views
    after = by_event plan line.time line.event (change_views plan line.time c w.views)

    stack : List Stage
    stack = after_then next (drop 1 (place w line.actor))

    now : World
    now = after_line plan w line (Some (writes line.event c next))

    views_are : now.views ≡ after
    views_are = views_after plan w line c next

    places_are : places now ≡ places (with_place w line.actor stack)
    places_are = places_moved w after (counts_call line.actor line.event w.called) line.actor stack

    placed : IsPlaced w line.actor
    placed = is_placed plan w line.actor s h.entries h.places stands

    entries_after_line : HasEntries plan after
    entries_after_line = entries_after plan line.time line.event (change_views plan line.time c w.views) named.entries

    entries_now : HasEntries plan now.views
    entries_now = subst (HasEntries plan) (sym views_are) entries_after_line

    places_now : HasPlaces plan now
    places_now = places_kept plan (record w { views = after; called = counts_call line.actor line.event w.called }) line.actor stack (record { callers = h.places.callers; works = h.places.works; timers = h.places.timers })

    status_now : (d : DevId) → d.0 < length plan.devices → (device after d).status ≡ said line.event w.views d
    status_now d within = status_is plan line.time line.event w.views (change_views plan line.time c w.views) d (omega (arith, named.entries.devices)) (named.still d)

    settled_after : (d : DevId) → no_callbacks plan d ≡ true → is_moving after d ≡ false
    settled_after d none = ap is_moving_status (status_now d (quiet_within plan d none)) ∙ k.owning.settles d none (h.settled d none)

    settled_now : (d : DevId) → no_callbacks plan d ≡ true → is_moving now.views d ≡ false
    settled_now = subst (λ x. (d : DevId) → no_callbacks plan d ≡ true → is_moving x d ≡ false) (sym views_are) settled_after

    tally_now : (f : Stage → ℕ) → IsWeight f → tally f (places now) ≡ weigh f (shown next) + others f w line.actor
    tally_now f is = ap (tally f) places_are ∙ with_next f is plan w line.actor s next placed stands

    both_owners : (d : DevId) → d.0 < length plan.devices
        → (one (is_suspending_status (said line.event w.views d)) ≡ weigh (owns_suspend d) (shown next) + others (owns_suspend d) w line.actor) × (one (is_resuming_status (said line.event w.views d)) ≡ weigh (owns_resume d) (shown next) + others (owns_resume d) w line.actor)
    both_owners d within =
        k.owning.one_each d (others (owns_suspend d) w line.actor) (others (owns_resume d) w line.actor)
        (sym (h.owners.suspending d within) ∙ with_top (owns_suspend d) (suspends_weigh d) plan w line.actor s placed stands)
        (sym (h.owners.resuming d within) ∙ with_top (owns_resume d) (resumes_weigh d) plan w line.actor s placed stands)

    owners_now : HasOneOwner plan now
    owners_now = record {
      suspending = λ d within. tally_now (owns_suspend d) (suspends_weigh d) ∙ sym (both_owners d within).0 ∙ ap (λ x. one (is_suspending_status x)) (sym (status_now d within)) ∙ ap (λ (x : Views). one (is_suspending x d)) (sym views_are);
      resuming = λ d within. tally_now (owns_resume d) (resumes_weigh d) ∙ sym (both_owners d within).1 ∙ ap (λ x. one (is_resuming_status x)) (sym (status_now d within)) ∙ ap (λ (x : Views). one (is_resuming x d)) (sym views_are);
    }

    counts_after : (d : DevId) → d.0 < length plan.devices → (device after d).usage ≡ owed plan after d + tally (holds plan d) (places now)
    counts_after d within =
        let new = k.counting.adds d (others (holds plan d) w line.actor) within (held_top plan w line.actor s d h stands within) in
        let all = tally_now (holds plan d) (holds_weigh plan d) in
        omega arith

    counts_now : AddsUp plan now
    counts_now = subst (λ x. (d : DevId) → d.0 < length plan.devices → (device x d).usage ≡ owed plan x d + tally (holds plan d) (places now)) (sym views_are) counts_after

-- before any line
pub start_status : (l : List DeviceRow) (i : ℕ)
    → status_of (slice_index_or (map (λ row. record fresh_device { ignores = row.ignore_children }) l) i fresh_device) ≡ Suspended
start_status [] i = refl
start_status (x ∷ l) zero = refl
start_status (x ∷ l) (suc i) = start_status l i

pub start_usage : (l : List DeviceRow) (i : ℕ)
    → (let x : Device = slice_index_or (map (λ row. record fresh_device { ignores = row.ignore_children }) l) i fresh_device in (x.usage ≡ 0) × (told x ≡ 0))
start_usage [] i = (refl, refl)
start_usage (x ∷ l) zero = (refl, refl)
start_usage (x ∷ l) (suc i) = start_usage l i

start_lent : (d : DevId) (l : List LinkRow) → lent_of l (map (λ row. false) l) d ≡ 0
start_lent d [] = refl
start_lent d (x ∷ l) = omega (arith, start_lent d l, lent_cons x l false (map (λ row. false) l) d, one_and_false (nat_eq x.supplier.0 d.0))

empty_tally : {A : Type 0} (f : Stage → ℕ) (l : List A) → tally f (map (λ _. []) l) ≡ 0
empty_tally f [] = refl
empty_tally f (x ∷ l) = empty_tally f l

pub start_tally : (plan : Plan) (f : Stage → ℕ) → tally f (places (start plan)) ≡ 0
start_tally plan f =
    omega (arith, tally_joined f (start plan).caller_places (start plan).work_places (start plan).timer_places, empty_tally f plan.callers, empty_tally f plan.devices)

start_holds : (plan : Plan) → Holds plan (start plan)
start_holds plan = record {
  entries = record {
    devices = length-map plan.devices _;
    pending = length-map plan.devices _;
    timers = length-map plan.devices _;
    on = length-map (enumerate_from 0 plan.domains) _ ∙ length-enumerate_from 0 plan.domains;
    held = length-map plan.links _;
    present = length-map plan.links _;
  };
  places = record { callers = length-map plan.callers _; works = length-map plan.devices _; timers = length-map plan.devices _ };
  settled = λ d _. ap is_moving_status (start_status plan.devices d.0);
  owners = record {
    suspending = λ d _. start_tally plan (owns_suspend d) ∙ sym (ap (λ x. one (is_suspending_status x)) (start_status plan.devices d.0));
    resuming = λ d _. start_tally plan (owns_resume d) ∙ sym (ap (λ x. one (is_resuming_status x)) (start_status plan.devices d.0));
  };
  counts = λ d _. omega (arith, (start_usage plan.devices d.0).0, (start_usage plan.devices d.0).1, start_lent d plan.links, start_tally plan (holds plan d));
}

-- a line, the row that writes it, and that the row pays what it owes
pub record Paid (plan : Plan) (w : World) (line : Line) : Type 0 where
  pub stage : Stage
  pub stands : stage_at plan w line.actor ≡ Some stage
  pub change : Change
  pub next : Then
  pub leads : row_at plan w line.actor line.time ≡ Some (writes line.event change next)
  pub beside : Beside plan w.views (change_views plan line.time change w.views)
  pub keeps : Keeps plan w.views line.time stage line.event change next

pub permitted : (plan : Plan) (h : List Line) (line : Line) → Permits plan h line → Holds plan (world plan h) → Paid plan (world plan h) line
permitted plan h line p holds =
    let w = world plan h in
    let known : Known plan w.views = record { entries = holds.entries; settled = holds.settled } in
    let is = written (due plan w.views p.stage) line.time (row plan w.views p.stage line.time) line.event p.change p.next p.gives in
    let owes = row_keeps plan w.views line.time p.stage (writes line.event p.change p.next) known is in
    record {
      stage = p.stage;
      stands = p.stands;
      change = p.change;
      next = p.next;
      leads = ap (option_and_then (λ s. row plan w.views s line.time)) p.stands ∙ is;
      beside = beside plan line.time p.change w.views holds.entries;
      keeps = owes.paid;
    }

-- every lawful list
pub lawful_holds : (plan : Plan) (h : List Line) → IsLawful plan h → Holds plan (world plan h)
lawful_holds plan [] lawful = start_holds plan
lawful_holds plan (line ∷ h) lawful =
    let before = lawful_holds plan h lawful.2 in
    let p = permitted plan h line lawful.0 before in
    subst (λ r. Holds plan (after_line plan (world plan h) line r)) (sym p.leads) (step plan (world plan h) line p.stage p.change p.next before p.stands p.keeps)
