-- A line of an island's actor keeps worlds that agree on it, and changes nothing of another island.
use Rattle.std.proofs.Common.{ℕ, zero, suc, ◌≡◌, Bool, true, false, List, [], ◌∷◌, Option, Some, None, drop, slice_set, slice_index_or, refl, sym, subst, if◌then◌else◌}
use Rattle.std.specs.Prelude.{slice_get, option_map}
use Rattle.std.specs.Option.{option_and_then}
use Rattle.pm_base.specs.declared.ActorId.{ActorId}
use Rattle.pm_base.specs.declared.ActorId.TheVariants.{Caller, Work, Timer}
use Rattle.pm_base.specs.declared.Armed.{Armed}
use Rattle.pm_model.specs.declared.event.Command.{Command}
use Rattle.pm_model.specs.declared.event.Event.{Event}
use Rattle.pm_model.specs.declared.event.Event.TheVariants as event
use Rattle.pm_model.specs.declared.event.Line.{Line}
use Rattle.pm_model.specs.declared.plan.Plan.{Plan}
use Rattle.pm_model.specs.declared.rows.CallerRow.{CallerRow}
use Rattle.pm_model.specs.declared.stage.Change.{Change}
use Rattle.pm_model.specs.declared.stage.HelperStage.TheVariants as at
use Rattle.pm_model.specs.declared.stage.Stage.{Stage}
use Rattle.pm_model.specs.declared.stage.Stage.TheVariants as stage
use Rattle.pm_model.specs.declared.stage.Then.{Then}
use Rattle.pm_model.specs.ChangeViews.{change_views}
use Rattle.pm_model.specs.Events.{by_event}
use Rattle.pm_model.specs.Handing.{after_then}
use Rattle.pm_model.specs.Row.{writes}
use Rattle.pm_model.specs.Spelling.{takes_device}
use Rattle.pm_model.specs.Views.{Views, pending_of, timer}
use Rattle.pm_model.specs.World.{World, place, with_place, called_by, ready, top, stage_at, counts_call, after_line}
use Rattle.pm_laws.proofs.islands.Region.{Alike, AreBound, DeviceIn, Region, Agree, Island, WorldsAgree, AreApart, ArePlaced, is_actor_of, is_own_link, StageIn, StagesIn, StaysIn}
use Rattle.pm_laws.proofs.islands.AlikeLists.{alike_at, alike_refl, alike_set, alike_aside, alike_trans, alike_sym, by_sym}
use Rattle.pm_laws.proofs.islands.ViewsAlike.{pending_agrees, timer_agrees}
use Rattle.pm_laws.proofs.islands.LocalChanges.{agree_refl, agree_trans, change_local}
use Rattle.pm_laws.proofs.islands.LocalEvents.{event_moves}
use Rattle.pm_laws.proofs.islands.StageSteps.{after_in}

pub worlds_refl : (plan : Plan) (k : Island plan) (v : World) → WorldsAgree plan k v v
worlds_refl plan k v = record {
  views = agree_refl plan k.region v.views;
  caller_places = alike_refl k.callers v.caller_places;
  work_places = alike_refl k.region.inside v.work_places;
  timer_places = alike_refl k.region.inside v.timer_places;
  called = alike_refl k.callers v.called;
}

pub worlds_trans : {plan : Plan} {k : Island plan} {u v w : World} → WorldsAgree plan k u v → WorldsAgree plan k v w → WorldsAgree plan k u w
worlds_trans {plan} {k} {u} {v} {w} a b = record {
  views = agree_trans a.views b.views;
  caller_places = alike_trans k.callers u.caller_places v.caller_places w.caller_places a.caller_places b.caller_places;
  work_places = alike_trans k.region.inside u.work_places v.work_places w.work_places a.work_places b.work_places;
  timer_places = alike_trans k.region.inside u.timer_places v.timer_places w.timer_places a.timer_places b.timer_places;
  called = alike_trans k.callers u.called v.called w.called a.called b.called;
}

pub place_alike : {plan : Plan} {k : Island plan} {v w : World} (a : ActorId) → WorldsAgree plan k v w → is_actor_of k a ≡ true → place v a ≡ place w a
place_alike {plan} {k} {v} {w} (Caller c) a i = alike_at k.callers v.caller_places w.caller_places c [] a.caller_places i
place_alike {plan} {k} {v} {w} (Work d) a i = alike_at k.region.inside v.work_places w.work_places d [] a.work_places i
place_alike {plan} {k} {v} {w} (Timer d) a i = alike_at k.region.inside v.timer_places w.timer_places d [] a.timer_places i

ready_alike : {plan : Plan} {k : Island plan} {v w : World} (a : ActorId) → WorldsAgree plan k v w → is_actor_of k a ≡ true → ready plan v a ≡ ready plan w a
ready_alike {plan} {k} {v} {w} (Caller c) a i = rw (alike_at k.callers v.called w.called c 0 a.called i) refl
ready_alike (Work d) a i = rw (pending_agrees (record { 0 = d }) a.views i) refl
ready_alike (Timer d) a i = rw (timer_agrees (record { 0 = d }) a.views i) refl

pub stage_alike : {plan : Plan} {k : Island plan} {v w : World} (a : ActorId) → WorldsAgree plan k v w → is_actor_of k a ≡ true → stage_at plan v a ≡ stage_at plan w a
stage_alike x a i = rw (place_alike x a i, ready_alike x a i) refl

some_stage : (x y : Stage) → Some x ≡ Some y → x ≡ y
some_stage x y e = cc

command_in : (plan : Plan) (k : Island plan) (command : Command) → (takes_device command.helper ≡ true → k.region.inside command.dev.0 ≡ true)
    → StageIn k.region (stage.Helper (at.Call command))
command_in plan k command own = go (takes_device command.helper) own
  where
    go : (b : Bool) → (b ≡ true → k.region.inside command.dev.0 ≡ true) → DeviceIn k.region (if b then Some command.dev else None)
    go true own = own refl
    go false own = tt

ready_in : (plan : Plan) (k : Island plan) (w : World) (a : ActorId) (s : Stage) → is_actor_of k a ≡ true → ready plan w a ≡ Some s → StageIn k.region s
ready_in plan k w (Caller c) s i e = by_row (slice_get plan.callers c) refl e
  where
    by_command : (row : CallerRow) (x : Option Command) → slice_get plan.callers c ≡ Some row → slice_get row.script (called_by w c) ≡ x
        → option_map (λ command. stage.Helper (at.Call command)) x ≡ Some s → StageIn k.region s
    by_command row None found is e = absurd (cc)
    by_command row (Some command) found is e =
        subst (λ x. StageIn k.region x) (some_stage (stage.Helper (at.Call command)) s e) (command_in plan k command (k.scripts c row (called_by w c) command i found is))

    by_row : (x : Option CallerRow) → slice_get plan.callers c ≡ x
        → option_map (λ command. stage.Helper (at.Call command)) (option_and_then (λ caller. slice_get caller.script (called_by w c)) x) ≡ Some s → StageIn k.region s
    by_row None found e = absurd (cc)
    by_row (Some row) found e = by_command row (slice_get row.script (called_by w c)) found refl e
ready_in plan k w (Work d) s i e = go (pending_of w.views (record { 0 = d })).queued e
  where
    go : (b : Bool) → (if b then Some (stage.Helper (at.Work (record { 0 = d }))) else None) ≡ Some s → StageIn k.region s
    go true e = subst (λ x. StageIn k.region x) (some_stage (stage.Helper (at.Work (record { 0 = d }))) s e) i
    go false e = absurd (cc)
ready_in plan k w (Timer d) s i e = go (timer w.views (record { 0 = d })) e
  where
    go : (x : Option Armed) → option_map (λ armed. stage.Helper (at.Timer (record { 0 = d }))) x ≡ Some s → StageIn k.region s
    go None e = absurd (cc)
    go (Some armed) e = subst (λ x. StageIn k.region x) (some_stage (stage.Helper (at.Timer (record { 0 = d }))) s e) i

pub stage_in : (plan : Plan) (k : Island plan) (w : World) (a : ActorId) (s : Stage) → ArePlaced plan k w → is_actor_of k a ≡ true → stage_at plan w a ≡ Some s
    → StageIn k.region s
stage_in plan k w a s placed i e = go (place w a) (placed a i) e
  where
    go : (stages : List Stage) → StagesIn k.region stages → top (ready plan w a) stages ≡ Some s → StageIn k.region s
    go [] p e = ready_in plan k w a s i e
    go (x ∷ rest) p e = subst (λ x. StageIn k.region x) (some_stage x s e) p.0

drop_in : (plan : Plan) (k : Region plan) (stages : List Stage) → StagesIn k stages → StagesIn k (drop 1 stages)
drop_in plan k [] p = tt
drop_in plan k (x ∷ rest) p = p.1

-- how many commands are called
counts_alike : (plan : Plan) (k : Island plan) (a : ActorId) (e : Event) (xs ys : List ℕ) → is_actor_of k a ≡ true → Alike k.callers xs ys
    → Alike k.callers (counts_call a e xs) (counts_call a e ys)
counts_alike plan k (Caller c) (event.Call command) xs ys i a = alike_set k.callers xs ys c _ _ a (λ _. rw (alike_at k.callers xs ys c 0 a i) refl)
counts_alike plan k _ _ xs ys i a = a

counts_aside : (plan : Plan) (k l : Island plan) (a : ActorId) (e : Event) (xs : List ℕ) → AreApart plan k l → is_actor_of k a ≡ true
    → Alike l.callers xs (counts_call a e xs)
counts_aside plan k l (Caller c) (event.Call command) xs apart i = alike_aside l.callers xs c _ (apart.callers c i)
counts_aside plan k l _ _ xs apart i = alike_refl l.callers xs

-- worlds that agree, with one list of places made anew
caller_places_anew : {plan : Plan} {k : Island plan} {v w : World} (xs ys : List (List Stage)) → WorldsAgree plan k v w → Alike k.callers xs ys
    → WorldsAgree plan k (record v { caller_places = xs }) (record w { caller_places = ys })
caller_places_anew xs ys a b = record { views = a.views; caller_places = b; work_places = a.work_places; timer_places = a.timer_places; called = a.called }

work_places_anew : {plan : Plan} {k : Island plan} {v w : World} (xs ys : List (List Stage)) → WorldsAgree plan k v w → Alike k.region.inside xs ys
    → WorldsAgree plan k (record v { work_places = xs }) (record w { work_places = ys })
work_places_anew xs ys a b = record { views = a.views; caller_places = a.caller_places; work_places = b; timer_places = a.timer_places; called = a.called }

timer_places_anew : {plan : Plan} {k : Island plan} {v w : World} (xs ys : List (List Stage)) → WorldsAgree plan k v w → Alike k.region.inside xs ys
    → WorldsAgree plan k (record v { timer_places = xs }) (record w { timer_places = ys })
timer_places_anew xs ys a b = record { views = a.views; caller_places = a.caller_places; work_places = a.work_places; timer_places = b; called = a.called }

-- a place is set
put_alike : {plan : Plan} {k : Island plan} {v w : World} (a : ActorId) (stages : List Stage) → WorldsAgree plan k v w → WorldsAgree plan k (with_place v a stages) (with_place w a stages)
put_alike {plan} {k} {v} {w} (Caller c) stages a = caller_places_anew _ _ a (alike_set k.callers v.caller_places w.caller_places c stages stages a.caller_places (λ _. refl))
put_alike {plan} {k} {v} {w} (Work d) stages a = work_places_anew _ _ a (alike_set k.region.inside v.work_places w.work_places d stages stages a.work_places (λ _. refl))
put_alike {plan} {k} {v} {w} (Timer d) stages a = timer_places_anew _ _ a (alike_set k.region.inside v.timer_places w.timer_places d stages stages a.timer_places (λ _. refl))

put_aside : (plan : Plan) (k l : Island plan) (v : World) (a : ActorId) (stages : List Stage) → AreApart plan k l → is_actor_of k a ≡ true
    → WorldsAgree plan l v (with_place v a stages)
put_aside plan k l v (Caller c) stages apart i = caller_places_anew _ _ (worlds_refl plan l v) (alike_aside l.callers v.caller_places c stages (apart.callers c i))
put_aside plan k l v (Work d) stages apart i = work_places_anew _ _ (worlds_refl plan l v) (alike_aside l.region.inside v.work_places d stages (apart.regions.devices d i))
put_aside plan k l v (Timer d) stages apart i = timer_places_anew _ _ (worlds_refl plan l v) (alike_aside l.region.inside v.timer_places d stages (apart.regions.devices d i))

-- a line of the island's own
pub own_line : {plan : Plan} {k : Island plan} {v w : World} (line : Line) (change : Change) (next : Then)
    → WorldsAgree plan k v w → is_actor_of k line.actor ≡ true → StaysIn plan k.region (writes line.event change next)
    → WorldsAgree plan k (after_line plan v line (Some (writes line.event change next))) (after_line plan w line (Some (writes line.event change next)))
own_line {plan} {k} {v} {w} line change next a i stays =
    let moved = event_moves {plan = plan} {k = k.region} line.time line.event stays.paid.0 in
    let local = change_local {plan = plan} {k = k.region} line.time change stays.paid.1 in
    let views = moved.keeps (change_views plan line.time change v.views) (change_views plan line.time change w.views) (local.keeps v.views w.views a.views) in
    let here : WorldsAgree plan k (record v { views = by_event plan line.time line.event (change_views plan line.time change v.views); called = counts_call line.actor line.event v.called })
    (record w { views = by_event plan line.time line.event (change_views plan line.time change w.views); called = counts_call line.actor line.event w.called }) =
    record {
      views = views;
      caller_places = a.caller_places;
      work_places = a.work_places;
      timer_places = a.timer_places;
      called = counts_alike plan k line.actor line.event v.called w.called i a.called;
    } in
    rw (place_alike line.actor a i) (put_alike line.actor (after_then next (drop 1 (place w line.actor))) here)

-- a line of another island's
pub other_line : (plan : Plan) (k l : Island plan) (v : World) (line : Line) (change : Change) (next : Then)
    → AreApart plan k l → is_actor_of k line.actor ≡ true → StaysIn plan k.region (writes line.event change next) → AreBound (is_own_link k.region) plan.links v.views.held
    → WorldsAgree plan l v (after_line plan v line (Some (writes line.event change next)))
other_line plan k l v line change next apart i stays bound =
    let moved = event_moves {plan = plan} {k = k.region} line.time line.event stays.paid.0 in
    let local = change_local {plan = plan} {k = k.region} line.time change stays.paid.1 in
    let first = local.spares l.region v.views apart.regions in
    let changed = change_views plan line.time change v.views in
    let still = subst (λ hs. AreBound (is_own_link k.region) plan.links hs) (sym (local.same_held v.views)) bound in
    let views = agree_trans first (moved.spares l.region changed apart.regions still) in
    let u : World = record v { views = by_event plan line.time line.event (change_views plan line.time change v.views); called = counts_call line.actor line.event v.called } in
    let here : WorldsAgree plan l v u =
    record {
      views = views;
      caller_places = alike_refl l.callers v.caller_places;
      work_places = alike_refl l.region.inside v.work_places;
      timer_places = alike_refl l.region.inside v.timer_places;
      called = counts_aside plan k l line.actor line.event v.called apart i;
    } in
    worlds_trans here (put_aside plan k l u line.actor (after_then next (drop 1 (place v line.actor))) apart i)

-- places stay in the island: those of other actors are as they were, and the line's holds what takes the stage's place
set_in : (plan : Plan) (k : Region plan) (xs : List (List Stage)) (i j : ℕ) (stages : List Stage) → StagesIn k stages → StagesIn k (slice_index_or xs j [])
    → StagesIn k (slice_index_or (slice_set xs i stages) j [])
set_in plan k [] i j stages new old = tt
set_in plan k (x ∷ xs) zero zero stages new old = new
set_in plan k (x ∷ xs) zero (suc j) stages new old = old
set_in plan k (x ∷ xs) (suc i) zero stages new old = old
set_in plan k (x ∷ xs) (suc i) (suc j) stages new old = set_in plan k xs i j stages new old

put_placed : (plan : Plan) (k : Island plan) (w : World) (a : ActorId) (stages : List Stage) → ArePlaced plan k w → StagesIn k.region stages → ArePlaced plan k (with_place w a stages)
put_placed plan k w (Caller c) stages placed new (Caller x) i = set_in plan k.region w.caller_places c x stages new (placed (Caller x) i)
put_placed plan k w (Work d) stages placed new (Work x) i = set_in plan k.region w.work_places d x stages new (placed (Work x) i)
put_placed plan k w (Timer d) stages placed new (Timer x) i = set_in plan k.region w.timer_places d x stages new (placed (Timer x) i)
put_placed plan k w (Caller c) stages placed new (Work x) i = placed (Work x) i
put_placed plan k w (Caller c) stages placed new (Timer x) i = placed (Timer x) i
put_placed plan k w (Work d) stages placed new (Caller x) i = placed (Caller x) i
put_placed plan k w (Work d) stages placed new (Timer x) i = placed (Timer x) i
put_placed plan k w (Timer d) stages placed new (Caller x) i = placed (Caller x) i
put_placed plan k w (Timer d) stages placed new (Work x) i = placed (Work x) i

pub own_placed : (plan : Plan) (k : Island plan) (w : World) (line : Line) (change : Change) (next : Then)
    → ArePlaced plan k w → is_actor_of k line.actor ≡ true → StaysIn plan k.region (writes line.event change next)
    → ArePlaced plan k (after_line plan w line (Some (writes line.event change next)))
own_placed plan k w line change next placed i stays =
    let new = after_in plan k.region next (drop 1 (place w line.actor)) stays.paid.2 (drop_in plan k.region (place w line.actor) (placed line.actor i)) in
    let u : World = record w { views = by_event plan line.time line.event (change_views plan line.time change w.views); called = counts_call line.actor line.event w.called } in
    let before : ArePlaced plan k u = λ a own. placed_same a own in
    put_placed plan k u line.actor (after_then next (drop 1 (place w line.actor))) before new
  where
    placed_same : (a : ActorId) → is_actor_of k a ≡ true
        → StagesIn k.region (place (record w { views = by_event plan line.time line.event (change_views plan line.time change w.views); called = counts_call line.actor line.event w.called }) a)
    placed_same (Caller c) own = placed (Caller c) own
    placed_same (Work d) own = placed (Work d) own
    placed_same (Timer d) own = placed (Timer d) own

agree_sym : {plan : Plan} {k : Region plan} {v w : Views} → Agree plan k v w → Agree plan k w v
agree_sym {plan} {k} {v} {w} a = record {
  devices = alike_sym k.inside v.devices w.devices a.devices;
  pending = alike_sym k.inside v.pending w.pending a.pending;
  timers = alike_sym k.inside v.timers w.timers a.timers;
  on = alike_sym k.domains v.on w.on a.on;
  held = by_sym (is_own_link k) plan.links v.held w.held a.held;
  present = by_sym (is_own_link k) plan.links v.present w.present a.present;
}

pub worlds_sym : {plan : Plan} {k : Island plan} {v w : World} → WorldsAgree plan k v w → WorldsAgree plan k w v
worlds_sym {plan} {k} {v} {w} a = record {
  views = agree_sym a.views;
  caller_places = alike_sym k.callers v.caller_places w.caller_places a.caller_places;
  work_places = alike_sym k.region.inside v.work_places w.work_places a.work_places;
  timer_places = alike_sym k.region.inside v.timer_places w.timer_places a.timer_places;
  called = alike_sym k.callers v.called w.called a.called;
}
