-- A line moves the moments of few actors.
use Rattle.std.proofs.Common.{ℕ, ◌≡◌, ◌≢◌, Bool, true, false, List, [], ◌∷◌, Option, Some, None, option_map, slice_index_or, drop, if◌then◌else◌, ap, refl, sym, ◌∙◌, subst}
use Rattle.std.specs.Option.{option_and_then}
use Rattle.std.proofs.lemmas.List.{get_or-set_other}
use Rattle.pm_base.specs.declared.ActorId.{ActorId}
use Rattle.pm_base.specs.declared.ActorId.TheVariants.{Caller, Work, Timer}
use Rattle.pm_base.specs.declared.Armed.{Armed}
use Rattle.pm_base.specs.declared.DevId.{DevId}
use Rattle.pm_model.specs.declared.event.Command.{Command}
use Rattle.pm_model.specs.declared.event.Event.{Event}
use Rattle.pm_model.specs.declared.event.Event.TheVariants as event
use Rattle.pm_model.specs.declared.event.Line.{Line}
use Rattle.pm_model.specs.declared.plan.Plan.{Plan}
use Rattle.pm_model.specs.declared.stage.Change.{Change}
use Rattle.pm_model.specs.declared.stage.ControlStage.TheVariants as control
use Rattle.pm_model.specs.declared.stage.HelperStage.TheVariants as at
use Rattle.pm_model.specs.declared.stage.ResumeStage.TheVariants as resume
use Rattle.pm_model.specs.declared.stage.Stage.{Stage}
use Rattle.pm_model.specs.declared.stage.Stage.TheVariants as stage
use Rattle.pm_model.specs.declared.stage.SuspendStage.TheVariants as suspend
use Rattle.pm_model.specs.ChangeViews.{change_views}
use Rattle.pm_model.specs.Derived.{busy}
use Rattle.pm_model.specs.Events.{by_event}
use Rattle.pm_model.specs.Handing.{after_then}
use Rattle.pm_model.specs.History.{History}
use Rattle.pm_model.specs.Lawful.{Permits}
use Rattle.pm_model.specs.Row.{writes}
use Rattle.pm_model.specs.Views.{Views, pending_of, timer}
use Rattle.pm_model.specs.World.{World, after_line, called_by, counts_call, due, next_command, place, ready, row, row_at, top, with_place, world}
use Rattle.pm_laws.proofs.counts.Runs.{written}
use Rattle.pm_laws.specs.turns.Wakes.{wakes, wakes_at}
use Rattle.pm_laws.specs.turns.Glance.{Glance, glance}
use Rattle.pm_laws.specs.turns.Looks.{IsApart, IsSpared, device_at, device_changed, looks, looks_at, looks_by}
use Rattle.pm_laws.proofs.turns.Leading.{IsOne, row_leads}
use Rattle.pm_laws.proofs.turns.Nearness.{change_apart, event_apart}

-- the device that is looked at, if one is, looks the same
abbrev pub IsAlike : Option DevId → Views → Views → Type 0
IsAlike None v v' = Unit {0}
IsAlike (Some x) v v' = glance v' x ≡ glance v x

pub stage_alike : (plan : Plan) (v v' : Views) (s : Stage) → IsAlike (looks s) v v' → wakes_at plan v' s ≡ wakes_at plan v s
unfolding busy
stage_alike plan v v' (stage.Suspend (suspend.Waiting d f)) same = rw (ap (λ (g : Glance). g.moving.status) same) refl
stage_alike plan v v' (stage.Resume (resume.Waiting r tried)) same = rw (ap (λ (g : Glance). g.moving.status) same) refl
stage_alike plan v v' (stage.Control (control.Disabled d)) same = rw (ap (λ (g : Glance). g.moving.status) same, ap (λ (g : Glance). g.moving.idle_running) same) refl
stage_alike plan v v' (stage.Control (control.BarrierWait d c)) same = rw (ap (λ (g : Glance). g.moving.status) same, ap (λ (g : Glance). g.moving.idle_running) same) refl
stage_alike plan v v' (stage.Helper (at.Timer d)) same = rw (ap (λ (g : Glance). g.armed) same) refl
stage_alike plan v v' _ same = refl

-- what tells whether a work item is queued and from when a timer may fire is the same
abbrev pub AreRestsAlike : ActorId → Views → Views → Type 0
AreRestsAlike (Caller c) v v' = Unit {0}
AreRestsAlike (Work d) v v' = (pending_of v' (record { 0 = d })).queued ≡ (pending_of v (record { 0 = d })).queued
AreRestsAlike (Timer d) v v' = timer v' (record { 0 = d }) ≡ timer v (record { 0 = d })

rests_alike : (b : ActorId) (v v' : Views) → IsAlike (looks_by b []) v v' → AreRestsAlike b v v'
rests_alike (Caller c) v v' same = tt
rests_alike (Work d) v v' same = ap (λ (g : Glance). g.queued) same
rests_alike (Timer d) v v' same = ap (λ (g : Glance). g.armed) same

-- what an actor that rests would start
pub ready_alike : (plan : Plan) (w w' : World) (b : ActorId) → ((c : ℕ) → b ≡ Caller c → called_by w' c ≡ called_by w c) → AreRestsAlike b w.views w'.views
    → option_and_then (wakes_at plan w'.views) (ready plan w' b) ≡ option_and_then (wakes_at plan w.views) (ready plan w b)
ready_alike plan w w' (Caller c) calls same = rw (calls c refl) (go (next_command plan w c))
  where
    go : (o : Option Command) → option_and_then (wakes_at plan w'.views) (option_map (λ command. stage.Helper (at.Call command)) o)
        ≡ option_and_then (wakes_at plan w.views) (option_map (λ command. stage.Helper (at.Call command)) o)
    go None = refl
    go (Some command) = refl
ready_alike plan w w' (Work d) calls same = rw same (go _)
  where
    go : (b : Bool) → option_and_then (wakes_at plan w'.views) (if b then Some (stage.Helper (at.Work (record { 0 = d }))) else None)
        ≡ option_and_then (wakes_at plan w.views) (if b then Some (stage.Helper (at.Work (record { 0 = d }))) else None)
    go true = refl
    go false = refl
ready_alike plan w w' (Timer d) calls same = rw same (go (timer w.views (record { 0 = d })))
  where
    go : (o : Option Armed) → option_and_then (wakes_at plan w'.views) (option_map (λ armed. stage.Helper (at.Timer (record { 0 = d }))) o)
        ≡ option_and_then (wakes_at plan w.views) (option_map (λ armed. stage.Helper (at.Timer (record { 0 = d }))) o)
    go None = refl
    go (Some armed) = rw same refl

place_alike : (plan : Plan) (w w' : World) (b : ActorId) → ((c : ℕ) → b ≡ Caller c → called_by w' c ≡ called_by w c) → (l : List Stage) → IsAlike (looks_by b l) w.views w'.views
    → option_and_then (wakes_at plan w'.views) (top (ready plan w' b) l) ≡ option_and_then (wakes_at plan w.views) (top (ready plan w b) l)
place_alike plan w w' b calls [] same = ready_alike plan w w' b calls (rests_alike b w.views w'.views same)
place_alike plan w w' b calls (s ∷ rest) same = stage_alike plan w.views w'.views s same

-- another actor keeps its place, and its calls
pub place_kept : (w : World) (a b : ActorId) (l : List Stage) → b ≢ a → place (with_place w a l) b ≡ place w b
place_kept w (Caller c) (Caller k) l other = get_or-set_other w.caller_places c k l [] (λ e. other (ap (λ n. Caller n) e))
place_kept w (Work c) (Work k) l other = get_or-set_other w.work_places c k l [] (λ e. other (ap (λ n. Work n) e))
place_kept w (Timer c) (Timer k) l other = get_or-set_other w.timer_places c k l [] (λ e. other (ap (λ n. Timer n) e))
place_kept w (Caller c) (Work k) l other = refl
place_kept w (Caller c) (Timer k) l other = refl
place_kept w (Work c) (Caller k) l other = refl
place_kept w (Work c) (Timer k) l other = refl
place_kept w (Timer c) (Caller k) l other = refl
place_kept w (Timer c) (Work k) l other = refl

pub calls_kept : (a : ActorId) (e : Event) (called : List ℕ) (c : ℕ) → Caller c ≢ a → slice_index_or (counts_call a e called) c 0 ≡ slice_index_or called c 0
calls_kept (Caller k) (event.Call command) called c other = get_or-set_other called k c _ 0 (λ e. other (ap (λ n. Caller n) e))
calls_kept (Caller k) _ called c other = refl
calls_kept (Work k) e called c other = refl
calls_kept (Timer k) e called c other = refl

pub with_views : (w : World) (a : ActorId) (l : List Stage) → (with_place w a l).views ≡ w.views
with_views w (Caller c) l = refl
with_views w (Work c) l = refl
with_views w (Timer c) l = refl

pub with_called : (w : World) (a : ActorId) (l : List Stage) → (with_place w a l).called ≡ w.called
with_called w (Caller c) l = refl
with_called w (Work c) l = refl
with_called w (Timer c) l = refl

-- the world after a line whose row names this change, before the place of its actor is another
abbrev pub moved : Plan → World → Line → Change → World
moved plan w line c = record w {
  views = by_event plan line.time line.event (change_views plan line.time c w.views);
  called = counts_call line.actor line.event w.called;
}

pub place_moved : (plan : Plan) (w : World) (line : Line) (c : Change) (b : ActorId) → place (moved plan w line c) b ≡ place w b
place_moved plan w line c (Caller k) = refl
place_moved plan w line c (Work k) = refl
place_moved plan w line c (Timer k) = refl

-- a change of the stage's device leaves one that is apart from it
apart_of : (changed at : Option DevId) (x : DevId) → IsOne changed at → IsApart at x → IsApart changed x
apart_of None at x one apart = tt
apart_of (Some d) at x one apart = subst (λ o. IsApart o x) one apart

pub spared_alike : (plan : Plan) (v : Views) (t : ℕ) (s : Stage) (e : Event) (c : Change) → IsOne (device_changed c) (device_at s) → (o : Option DevId) → IsSpared o s e
    → IsAlike o v (by_event plan t e (change_views plan t c v))
spared_alike plan v t s e c one None spared = tt
spared_alike plan v t s e c one (Some x) spared =
    event_apart plan t e (change_views plan t c v) x spared.1 ∙ change_apart plan t c v x (apart_of (device_changed c) (device_at s) x one spared.0)

frame_written : (plan : Plan) (w : World) (line : Line) (s : Stage) (c : Change) (l : List Stage) → IsOne (device_changed c) (device_at s)
    → (b : ActorId) → b ≢ line.actor → IsSpared (looks_at w b) s line.event → wakes plan (with_place (moved plan w line c) line.actor l) b ≡ wakes plan w b
frame_written plan w line s c l one b other spared =
    let u : World = moved plan w line c in
    let w' : World = with_place u line.actor l in
    let kept : place w' b ≡ place w b = place_kept u line.actor b l other ∙ place_moved plan w line c b in
    let calls : (k : ℕ) → b ≡ Caller k → called_by w' k ≡ called_by w k =
    λ k same. ap (λ x. slice_index_or x k 0) (with_called u line.actor l) ∙ calls_kept line.actor line.event w.called k (λ e. other (same ∙ e)) in
    let alike : IsAlike (looks_at w b) w.views w'.views =
    subst (λ x. IsAlike (looks_at w b) w.views x) (sym (with_views u line.actor l)) (spared_alike plan w.views line.time s line.event c one (looks_at w b) spared) in
    let tops : option_and_then (wakes_at plan w'.views) (top (ready plan w' b) (place w' b)) ≡ option_and_then (wakes_at plan w'.views) (top (ready plan w' b) (place w b)) =
    ap (λ x. option_and_then (wakes_at plan w'.views) (top (ready plan w' b) x)) kept in
    tops ∙ place_alike plan w w' b calls (place w b) alike

-- the row that writes a permitted line
pub row_of : (plan : Plan) (h : History) (line : Line) (p : Permits plan h line) → row plan (world plan h).views p.stage line.time ≡ Some (writes line.event p.change p.next)
row_of plan h line p =
    let w : World = world plan h in
    written (due plan w.views p.stage) line.time (row plan w.views p.stage line.time) line.event p.change p.next p.gives

pub leads_to : (plan : Plan) (h : History) (line : Line) (p : Permits plan h line) → row_at plan (world plan h) line.actor line.time ≡ Some (writes line.event p.change p.next)
leads_to plan h line p = ap (option_and_then (λ s. row plan (world plan h).views s line.time)) p.stands ∙ row_of plan h line p

pub wakes_frame : (plan : Plan) (h : History) (line : Line) (p : Permits plan h line) (b : ActorId) → b ≢ line.actor
    → IsSpared (looks_at (world plan h) b) p.stage line.event → wakes plan (world plan (line ∷ h)) b ≡ wakes plan (world plan h) b
wakes_frame plan h line p b other spared =
    let w : World = world plan h in
    let one = (row_leads plan w.views line.time p.stage (writes line.event p.change p.next) (row_of plan h line p)).0 in
    subst (λ r. wakes plan (after_line plan w line r) b ≡ wakes plan w b) (sym (leads_to plan h line p))
    (frame_written plan w line p.stage p.change (after_then p.next (drop 1 (place w line.actor))) one b other spared)
