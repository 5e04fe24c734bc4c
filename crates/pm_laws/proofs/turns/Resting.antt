-- A line that stirs no work item and no timer moves the moments of those alone who wait for its devices.
use Rattle.std.proofs.Common.{ℕ, zero, suc, ◌+◌, ◌-◌, ◌≡◌, ◌≢◌, Bool, true, false, ◌||◌, List, [], ◌∷◌, ℤ, pos, nat_eq, slice_index_or, slice_set, drop, if◌then◌else◌, ap, refl, sym, ◌∙◌, subst}
use Rattle.std.specs.Option.{option_and_then}
use Rattle.std.specs.Ordering.{int_eq}
use Rattle.pm_base.specs.declared.ActorId.{ActorId}
use Rattle.pm_base.specs.declared.ActorId.TheVariants.{Caller, Work, Timer}
use Rattle.pm_base.specs.declared.Cb.TheVariants as cb
use Rattle.pm_base.specs.declared.DevId.{DevId}
use Rattle.pm_base.specs.declared.Pending.{Pending}
use Rattle.pm_base.specs.declared.Req.{Req}
use Rattle.pm_base.specs.declared.Req.TheVariants.{Nothing}
use Rattle.pm_base.specs.declared.Status.TheVariants as status
use Rattle.pm_base.specs.declared.Why.{Why}
use Rattle.pm_base.specs.declared.Why.TheVariants as why
use Rattle.pm_model.specs.declared.event.Event.{Event}
use Rattle.pm_model.specs.declared.event.Event.TheVariants as event
use Rattle.pm_model.specs.declared.event.Line.{Line}
use Rattle.pm_model.specs.declared.plan.Plan.{Plan}
use Rattle.pm_model.specs.declared.stage.Change.{Change}
use Rattle.pm_model.specs.declared.stage.Change.TheVariants as change
use Rattle.pm_model.specs.declared.stage.Stage.{Stage}
use Rattle.pm_model.specs.declared.views.Device.{Device}
use Rattle.pm_model.specs.Changes.{callback_marks, enables, set_depth, set_held, set_last, set_present}
use Rattle.pm_model.specs.ChangeViews.{change_views}
use Rattle.pm_model.specs.Events.{by_event, gave, got, is_try_again, set_error, set_status, set_usage, suspend_failed}
use Rattle.pm_model.specs.Handing.{after_then}
use Rattle.pm_model.specs.History.{History}
use Rattle.pm_model.specs.Lawful.{Permits}
use Rattle.pm_model.specs.PlanRows.{marks_busy}
use Rattle.pm_model.specs.Row.{writes}
use Rattle.pm_model.specs.Views.{Views, device, fresh_pending, pending_of, timer, with_device}
use Rattle.pm_model.specs.World.{World, after_line, called_by, place, ready, top, with_place, world}
use Rattle.pm_laws.specs.turns.Looks.{IsSpared, change_stirs, device_at, device_changed, event_stirs, stirs}
use Rattle.pm_laws.specs.turns.Told.{top_looks}
use Rattle.pm_laws.specs.turns.Wakes.{wakes, wakes_at}
use Rattle.pm_laws.proofs.turns.Frames.{AreRestsAlike, IsAlike, calls_kept, leads_to, moved, place_kept, place_moved, ready_alike, row_of, spared_alike, stage_alike, with_called, with_views}
use Rattle.pm_laws.proofs.turns.Leading.{IsOne, row_leads}

-- each device is queued as before, and its timer is armed as before
pub record Calm (v v' : Views) : Type 0 where
  pub queued : (x : DevId) → (pending_of v' x).queued ≡ (pending_of v x).queued
  pub armed : (x : DevId) → timer v' x ≡ timer v x

calm_same : {v : Views} → Calm v v
calm_same = record { queued = λ x. refl; armed = λ x. refl }

calm_then : {v u : Views} (w : Views) → Calm v u → Calm u w → Calm v w
calm_then w a b = record { queued = λ x. b.queued x ∙ a.queued x; armed = λ x. b.armed x ∙ a.armed x }

calm_device : (d : DevId) (v : Views) (y : Device) → Calm v (with_device v d y)
calm_device d v y = record { queued = λ x. refl; armed = λ x. refl }

calm_either : (b : Bool) {v : Views} (x y : Views) → Calm v x → Calm v y → Calm v (if b then x else y)
calm_either true x y p q = p
calm_either false x y p q = q

-- another request is queued as it was
queued_kept : (l : List Pending) (i j : ℕ) (r : Req)
    → (slice_index_or (slice_set l i (record (slice_index_or l i fresh_pending) { request = r })) j fresh_pending).queued ≡ (slice_index_or l j fresh_pending).queued
queued_kept [] i j r = refl
queued_kept (x ∷ l) zero zero r = refl
queued_kept (x ∷ l) zero (suc j) r = refl
queued_kept (x ∷ l) (suc i) zero r = refl
queued_kept (x ∷ l) (suc i) (suc j) r = queued_kept l i j r

-- the changes that rows name
change_calm : (plan : Plan) (t : ℕ) (c : Change) (v : Views) → change_stirs c ≡ false → Calm v (change_views plan t c v)
unfolding callback_marks enables set_present
change_calm plan t change.Same v is = calm_same
change_calm plan t (change.CancelRequest d) v is = record { queued = λ x. queued_kept v.pending d.0 x.0 Nothing; armed = λ x. refl }
change_calm plan t (change.CallbackMarks d) v is = calm_either (marks_busy plan d) _ _ (calm_device d v _) calm_same
change_calm plan t (change.MarkBusy d) v is = calm_device d v _
change_calm plan t (change.Enable d) v is =
    calm_either (nat_eq (device v d).depth 1) _ _ (calm_then (set_last false d (set_depth 0 d v)) (calm_device d v _) (calm_device d (set_depth 0 d v) _)) (calm_device d v _)
change_calm plan t (change.Disable d) v is = calm_device d v _
change_calm plan t (change.KeepStatus d) v is = calm_device d v _
change_calm plan t (change.Set d use_auto delay) v is = calm_device d v _
change_calm plan t (change.Ignore d ignores) v is = calm_device d v _
change_calm plan t (change.Link c s present) v is = record { queued = λ x. refl; armed = λ x. refl }
change_calm plan t (change.Disarm d) v is = cc is
change_calm plan t (change.Cancel d) v is = cc is
change_calm plan t (change.CancelAll d) v is = cc is
change_calm plan t (change.ResumeCancel d) v is = cc is
change_calm plan t (change.SuspendEnded d c) v is = cc is
change_calm plan t (change.DisableBusy d) v is = cc is
change_calm plan t (change.DisableAtOnce d) v is = cc is

-- events
got_calm : (plan : Plan) (d : DevId) (w : Why) (v : Views) → Calm v (got plan d w v)
unfolding set_held
got_calm plan d why.Caller v = calm_device d v _
got_calm plan d why.Forbid v = calm_device d v _
got_calm plan d (why.Link c) v = record { queued = λ x. refl; armed = λ x. refl }
got_calm plan d _ v = calm_same

gave_calm : (plan : Plan) (d : DevId) (w : Why) (v : Views) → Calm v (gave plan d w v)
unfolding set_held
gave_calm plan d why.Caller v = calm_device d v _
gave_calm plan d why.Forbid v = calm_device d v _
gave_calm plan d (why.Link c) v = record { queued = λ x. refl; armed = λ x. refl }
gave_calm plan d _ v = calm_same

failed_calm : (d : DevId) (c : ℤ) (v : Views) → Calm v (suspend_failed d c v)
failed_calm d c v =
    let u : Views = set_status status.Active d v in
    calm_either (is_try_again c) u (set_error c d u) (calm_device d v _) (calm_then (set_error c d u) (calm_device d v _) (calm_device d u _))

event_calm : (plan : Plan) (t : ℕ) (e : Event) (v : Views) → event_stirs e ≡ false → Calm v (by_event plan t e v)
unfolding by_event
event_calm plan t (event.Get d w) v is =
    calm_then (got plan d w (set_usage ((device v d).usage + 1) d v)) (calm_device d v _) (got_calm plan d w (set_usage ((device v d).usage + 1) d v))
event_calm plan t (event.Put d w) v is =
    calm_then (gave plan d w (set_usage ((device v d).usage - 1) d v)) (calm_device d v _) (gave_calm plan d w (set_usage ((device v d).usage - 1) d v))
event_calm plan t (event.Begin d cb.Idle) v is = calm_device d v _
event_calm plan t (event.Begin d cb.Suspend) v is = calm_device d v _
event_calm plan t (event.Begin d cb.Resume) v is = calm_device d v _
event_calm plan t (event.End d cb.Idle c) v is = calm_device d v _
event_calm plan t (event.End d cb.Suspend c) v is = calm_either (int_eq c (pos 0)) v (suspend_failed d c v) calm_same (failed_calm d c v)
event_calm plan t (event.End d cb.Resume c) v is = calm_either (int_eq c (pos 0)) v (set_error c d v) calm_same (calm_device d v _)
event_calm plan t (event.Domain d is_up n) v is = go is_up
  where
    go : (b : Bool) → Calm v (by_event plan t (event.Domain d b n) v)
    go true = record { queued = λ x. refl; armed = λ x. refl }
    go false = record { queued = λ x. refl; armed = λ x. refl }
event_calm plan t (event.State d w) v is = cc is
event_calm plan t (event.Work d act) v is = cc is
event_calm plan t (event.Timer d act) v is = cc is
event_calm plan t _ v is = calm_same

neither : (a b : Bool) → a || b ≡ false → (a ≡ false) × (b ≡ false)
neither true b is = cc is
neither false b is = (refl, is)

pub line_calm : (plan : Plan) (t : ℕ) (e : Event) (c : Change) (v : Views) → stirs e c ≡ false → Calm v (by_event plan t e (change_views plan t c v))
line_calm plan t e c v is =
    let both = neither (event_stirs e) (change_stirs c) is in
    calm_then (by_event plan t e (change_views plan t c v)) (change_calm plan t c v both.1) (event_calm plan t e (change_views plan t c v) both.0)

rests_calm : (b : ActorId) (v v' : Views) → Calm v v' → AreRestsAlike b v v'
rests_calm (Caller c) v v' calm = tt
rests_calm (Work d) v v' calm = calm.queued (record { 0 = d })
rests_calm (Timer d) v v' calm = calm.armed (record { 0 = d })

place_calm : (plan : Plan) (w w' : World) (b : ActorId) → ((c : ℕ) → b ≡ Caller c → called_by w' c ≡ called_by w c) → Calm w.views w'.views
    → (l : List Stage) → IsAlike (top_looks l) w.views w'.views
    → option_and_then (wakes_at plan w'.views) (top (ready plan w' b) l) ≡ option_and_then (wakes_at plan w.views) (top (ready plan w b) l)
place_calm plan w w' b calls calm [] same = ready_alike plan w w' b calls (rests_calm b w.views w'.views calm)
place_calm plan w w' b calls calm (s ∷ rest) same = stage_alike plan w.views w'.views s same

calm_written : (plan : Plan) (w : World) (line : Line) (s : Stage) (c : Change) (l : List Stage) → IsOne (device_changed c) (device_at s) → stirs line.event c ≡ false
    → (b : ActorId) → b ≢ line.actor → IsSpared (top_looks (place w b)) s line.event → wakes plan (with_place (moved plan w line c) line.actor l) b ≡ wakes plan w b
calm_written plan w line s c l one calm b other spared =
    let u : World = moved plan w line c in
    let w' : World = with_place u line.actor l in
    let kept : place w' b ≡ place w b = place_kept u line.actor b l other ∙ place_moved plan w line c b in
    let calls : (k : ℕ) → b ≡ Caller k → called_by w' k ≡ called_by w k =
    λ k same. ap (λ x. slice_index_or x k 0) (with_called u line.actor l) ∙ calls_kept line.actor line.event w.called k (λ e. other (same ∙ e)) in
    let alike : IsAlike (top_looks (place w b)) w.views w'.views =
    subst (λ x. IsAlike (top_looks (place w b)) w.views x) (sym (with_views u line.actor l)) (spared_alike plan w.views line.time s line.event c one (top_looks (place w b)) spared) in
    let same : Calm w.views w'.views = subst (λ x. Calm w.views x) (sym (with_views u line.actor l)) (line_calm plan line.time line.event c w.views calm) in
    let tops : option_and_then (wakes_at plan w'.views) (top (ready plan w' b) (place w' b)) ≡ option_and_then (wakes_at plan w'.views) (top (ready plan w' b) (place w b)) =
    ap (λ x. option_and_then (wakes_at plan w'.views) (top (ready plan w' b) x)) kept in
    tops ∙ place_calm plan w w' b calls same (place w b) alike

pub wakes_calm : (plan : Plan) (h : History) (line : Line) (p : Permits plan h line) (b : ActorId) → b ≢ line.actor → stirs line.event p.change ≡ false
    → IsSpared (top_looks (place (world plan h) b)) p.stage line.event → wakes plan (world plan (line ∷ h)) b ≡ wakes plan (world plan h) b
wakes_calm plan h line p b other calm spared =
    let w : World = world plan h in
    let one = (row_leads plan w.views line.time p.stage (writes line.event p.change p.next) (row_of plan h line p)).0 in
    subst (λ r. wakes plan (after_line plan w line r) b ≡ wakes plan w b) (sym (leads_to plan h line p))
    (calm_written plan w line p.stage p.change (after_then p.next (drop 1 (place w line.actor))) one calm b other spared)
