-- What an event or a named change moves of what the moments see.
use Rattle.std.proofs.Common.{ℕ, ◌+◌, ◌-◌, ◌≡◌, ◌≢◌, Bool, true, false, Option, None, ℤ, pos, nat_eq, if◌then◌else◌, refl, ◌∙◌}
use Rattle.std.specs.Ordering.{int_eq}
use Rattle.std.proofs.lemmas.List.{get_or-set_other}
use Rattle.pm_base.specs.declared.Armed.{Armed}
use Rattle.pm_base.specs.declared.Cb.TheVariants as cb
use Rattle.pm_base.specs.declared.DevId.{DevId}
use Rattle.pm_base.specs.declared.Pending.{Pending}
use Rattle.pm_base.specs.declared.Req.{Req}
use Rattle.pm_base.specs.declared.Req.TheVariants.{Nothing}
use Rattle.pm_base.specs.declared.Status.TheVariants as status
use Rattle.pm_base.specs.declared.Why.{Why}
use Rattle.pm_base.specs.declared.Why.TheVariants as why
use Rattle.pm_model.specs.declared.event.Event.{Event}
use Rattle.pm_model.specs.declared.event.Event.TheVariants as event
use Rattle.pm_model.specs.declared.event.TimerAct.{TimerAct}
use Rattle.pm_model.specs.declared.event.TimerAct.TheVariants.{Arm, Fire}
use Rattle.pm_model.specs.declared.event.Word.{Word}
use Rattle.pm_model.specs.declared.event.Word.TheVariants as word
use Rattle.pm_model.specs.declared.event.WorkAct.{WorkAct}
use Rattle.pm_model.specs.declared.event.WorkAct.TheVariants.{Queue, Defer, Run}
use Rattle.pm_model.specs.declared.plan.Plan.{Plan}
use Rattle.pm_model.specs.declared.stage.Change.{Change}
use Rattle.pm_model.specs.declared.stage.Change.TheVariants as change
use Rattle.pm_model.specs.declared.views.Device.{Device}
use Rattle.pm_model.specs.Changes.{callback_marks, cancel, cancel_all, disabled_at_once, disables, disables_busy, disarm, enables, has_auto_timer, rcancel, set_deferred, set_depth, set_held, set_last, set_last_busy, set_present, set_request}
use Rattle.pm_model.specs.ChangeViews.{change_views, suspend_ended}
use Rattle.pm_model.specs.Derived.{is_active}
use Rattle.pm_model.specs.Events.{by_event, by_word, by_work, by_timer, got, gave, set_status, set_error, set_usage, frees_links, is_try_again, suspend_failed}
use Rattle.pm_model.specs.PlanRows.{marks_busy}
use Rattle.pm_model.specs.Views.{Views, fresh_device, fresh_pending, device, with_device, with_pending, with_timer}
use Rattle.pm_laws.proofs.counts.Turns.{freed_kept}
use Rattle.pm_laws.specs.turns.Glance.{glance, moving_of}
use Rattle.pm_laws.specs.turns.Looks.{IsApart, device_changed, device_in}

-- every other device looks the same
pub record Near (d : DevId) (v v' : Views) : Type 0 where
  pub others : (x : DevId) → x.0 ≢ d.0 → glance v' x ≡ glance v x

near_same : {d : DevId} {v : Views} → Near d v v
near_same = record { others = λ x apart. refl }

near_then : {d : DevId} {v u : Views} (w : Views) → Near d v u → Near d u w → Near d v w
near_then w a b = record { others = λ x apart. b.others x apart ∙ a.others x apart }

near_device : (d : DevId) (v : Views) (y : Device) → Near d v (with_device v d y)
near_device d v y = record { others = λ x apart. rw (get_or-set_other v.devices d.0 x.0 y fresh_device apart) refl }

near_pending : (d : DevId) (v : Views) (y : Pending) → Near d v (with_pending v d y)
near_pending d v y = record { others = λ x apart. rw (get_or-set_other v.pending d.0 x.0 y fresh_pending apart) refl }

near_timer : (d : DevId) (v : Views) (y : Option Armed) → Near d v (with_timer v d y)
near_timer d v y = record { others = λ x apart. rw (get_or-set_other v.timers d.0 x.0 y None apart) refl }

near_either : (b : Bool) {d : DevId} {v : Views} (x y : Views) → Near d v x → Near d v y → Near d v (if b then x else y)
near_either true x y p q = p
near_either false x y p q = q

-- the changes that rows name
near_request : (r : Req) (d : DevId) (v : Views) → Near d v (set_request r d v)
near_request r d v = near_pending d v _

near_disarm : (d : DevId) (v : Views) → Near d v (disarm d v)
near_disarm d v = near_timer d v None

near_cancel : (d : DevId) (v : Views) → Near d v (cancel d v)
near_cancel d v = near_then (cancel d v) (near_pending d v _) (near_timer d _ None)

near_cancel_all : (d : DevId) (v : Views) → Near d v (cancel_all d v)
near_cancel_all d v = near_then (cancel_all d v) (near_cancel d v) (near_pending d (cancel d v) _)

near_rcancel : (d : DevId) (v : Views) → Near d v (rcancel d v)
unfolding rcancel
near_rcancel d v = near_either (has_auto_timer v d) _ _ (near_pending d v _) (near_cancel d v)

near_last_busy : (t : ℕ) (d : DevId) (v : Views) → Near d v (set_last_busy t d v)
near_last_busy t d v = near_device d v _

near_marks : (plan : Plan) (d : DevId) (t : ℕ) (v : Views) → Near d v (callback_marks plan d t v)
unfolding callback_marks
near_marks plan d t v = near_either (marks_busy plan d) _ _ (near_last_busy t d v) near_same

near_disables : (d : DevId) (v : Views) → Near d v (disables d v)
near_disables d v = near_device d v _

near_last : (b : Bool) (d : DevId) (v : Views) → Near d v (set_last b d v)
near_last b d v = near_device d v _

near_enables : (d : DevId) (v : Views) → Near d v (enables d v)
unfolding enables
near_enables d v =
    near_either (nat_eq (device v d).depth 1) _ _ (near_then (set_last false d (set_depth 0 d v)) (near_device d v _) (near_device d (set_depth 0 d v) _)) (near_device d v _)

near_disables_busy : (d : DevId) (v : Views) → Near d v (disables_busy d v)
near_disables_busy d v = near_then (disables_busy d v) (near_disables d v) (near_cancel_all d (disables d v))

near_at_once : (d : DevId) (v : Views) → Near d v (disabled_at_once d v)
near_at_once d v = near_then (disabled_at_once d v) (near_disables_busy d v) (near_last (is_active v d) d _)

near_ended : (plan : Plan) (d : DevId) (c : ℤ) (t : ℕ) (v : Views) → Near d v (suspend_ended plan d c t v)
unfolding suspend_ended
near_ended plan d c t v =
    let marked : Views = callback_marks plan d t v in
    let near : Near d v marked = near_marks plan d t v in
    let undeferred : Near d v (set_deferred false d marked) = near_then (set_deferred false d marked) near (near_pending d marked _) in
    near_either (int_eq c (pos 0)) _ _ near
    (near_either (is_try_again c) _ _ undeferred (near_then (cancel d (set_deferred false d marked)) undeferred (near_cancel d (set_deferred false d marked))))

pub change_apart : (plan : Plan) (t : ℕ) (c : Change) (v : Views) (x : DevId) → IsApart (device_changed c) x → glance (change_views plan t c v) x ≡ glance v x
unfolding set_present
change_apart plan t change.Same v x apart = refl
change_apart plan t (change.CancelRequest d) v x apart = (near_request Nothing d v).others x apart
change_apart plan t (change.Disarm d) v x apart = (near_disarm d v).others x apart
change_apart plan t (change.Cancel d) v x apart = (near_cancel d v).others x apart
change_apart plan t (change.CancelAll d) v x apart = (near_cancel_all d v).others x apart
change_apart plan t (change.ResumeCancel d) v x apart = (near_rcancel d v).others x apart
change_apart plan t (change.CallbackMarks d) v x apart = (near_marks plan d t v).others x apart
change_apart plan t (change.SuspendEnded d c) v x apart = (near_ended plan d c t v).others x apart
change_apart plan t (change.MarkBusy d) v x apart = (near_last_busy t d v).others x apart
change_apart plan t (change.Enable d) v x apart = (near_enables d v).others x apart
change_apart plan t (change.Disable d) v x apart = (near_disables d v).others x apart
change_apart plan t (change.DisableBusy d) v x apart = (near_disables_busy d v).others x apart
change_apart plan t (change.DisableAtOnce d) v x apart = (near_at_once d v).others x apart
change_apart plan t (change.KeepStatus d) v x apart = (near_last (is_active v d) d v).others x apart
change_apart plan t (change.Set d use_auto delay) v x apart = (near_device d v _).others x apart
change_apart plan t (change.Ignore d ignores) v x apart = (near_device d v _).others x apart
change_apart plan t (change.Link c s present) v x apart = refl

-- events
near_got : (plan : Plan) (d : DevId) (w : Why) (v : Views) → Near d v (got plan d w v)
unfolding set_held
near_got plan d why.Caller v = near_device d v _
near_got plan d why.Forbid v = near_device d v _
near_got plan d (why.Link c) v = record { others = λ x apart. refl }
near_got plan d _ v = near_same

near_gave : (plan : Plan) (d : DevId) (w : Why) (v : Views) → Near d v (gave plan d w v)
unfolding set_held
near_gave plan d why.Caller v = near_device d v _
near_gave plan d why.Forbid v = near_device d v _
near_gave plan d (why.Link c) v = record { others = λ x apart. refl }
near_gave plan d _ v = near_same

-- where links are freed only usages change
freed_near : (plan : Plan) (d : DevId) (v : Views) → Near d v (frees_links plan d v)
unfolding frees_links
freed_near plan d v = record { others = λ x apart. rw (freed_kept moving_of (λ _ _. refl) plan d x v) refl }

near_status_timer : (d : DevId) (v : Views) → Near d v (disarm d (set_status status.Suspended d v))
near_status_timer d v = near_then (disarm d (set_status status.Suspended d v)) (near_device d v _) (near_disarm d (set_status status.Suspended d v))

near_word : (plan : Plan) (t : ℕ) (d : DevId) (w : Word) (v : Views) → Near d v (by_word plan t d w v)
near_word plan t d word.Active v = near_then (by_word plan t d word.Active v) (near_device d v _) (near_last_busy t d (set_status status.Active d v))
near_word plan t d word.Resuming v = near_device d v _
near_word plan t d word.Suspended v = near_status_timer d v
near_word plan t d word.Deferred v = near_then (by_word plan t d word.Deferred v) (near_status_timer d v) (near_pending d (disarm d (set_status status.Suspended d v)) _)
near_word plan t d word.ForcedActive v = near_then (by_word plan t d word.ForcedActive v) (near_device d v _) (near_device d (set_status status.Active d v) _)
near_word plan t d word.ForcedSuspended v =
    let u1 : Views = set_status status.Suspended d v in
    let u2 : Views = set_error (pos 0) d u1 in
    near_then (frees_links plan d (disarm d u2)) (near_then (disarm d u2) (near_then u2 (near_device d v _) (near_device d u1 _)) (near_disarm d u2)) (freed_near plan d (disarm d u2))

near_failed : (d : DevId) (c : ℤ) (v : Views) → Near d v (suspend_failed d c v)
near_failed d c v =
    let u : Views = set_status status.Active d v in
    near_either (is_try_again c) u (set_error c d u) (near_device d v _) (near_then (set_error c d u) (near_device d v _) (near_device d u _))

near_work : (d : DevId) (act : WorkAct) (v : Views) → Near d v (by_work d act v)
near_work d (Queue r) v = near_then (by_work d (Queue r) v) (near_request r d v) (near_pending d (set_request r d v) _)
near_work d Defer v = near_pending d v _
near_work d (Run r) v = near_then (by_work d (Run r) v) (near_request Nothing d v) (near_pending d (set_request Nothing d v) _)

near_timer_act : (d : DevId) (act : TimerAct) (v : Views) → Near d v (by_timer d act v)
near_timer_act d (Arm at autosuspends) v = near_timer d v _
near_timer_act d (Fire autosuspends) v = near_timer d v _

pub event_apart : (plan : Plan) (t : ℕ) (e : Event) (v : Views) (x : DevId) → IsApart (device_in e) x → glance (by_event plan t e v) x ≡ glance v x
unfolding by_event
event_apart plan t (event.Get d w) v x apart =
    (near_then (got plan d w (set_usage ((device v d).usage + 1) d v)) (near_device d v _) (near_got plan d w (set_usage ((device v d).usage + 1) d v))).others x apart
event_apart plan t (event.Put d w) v x apart =
    (near_then (gave plan d w (set_usage ((device v d).usage - 1) d v)) (near_device d v _) (near_gave plan d w (set_usage ((device v d).usage - 1) d v))).others x apart
event_apart plan t (event.State d w) v x apart = (near_word plan t d w v).others x apart
event_apart plan t (event.Begin d cb.Idle) v x apart = (near_device d v _).others x apart
event_apart plan t (event.Begin d cb.Suspend) v x apart = (near_device d v _).others x apart
event_apart plan t (event.Begin d cb.Resume) v x apart = (near_device d v _).others x apart
event_apart plan t (event.End d cb.Idle c) v x apart = (near_device d v _).others x apart
event_apart plan t (event.End d cb.Suspend c) v x apart = (near_either (int_eq c (pos 0)) v (suspend_failed d c v) near_same (near_failed d c v)).others x apart
event_apart plan t (event.End d cb.Resume c) v x apart = (near_either (int_eq c (pos 0)) v (set_error c d v) near_same (near_device d v _)).others x apart
event_apart plan t (event.Domain d is_up n) v x apart = go is_up
  where
    go : (b : Bool) → glance (by_event plan t (event.Domain d b n) v) x ≡ glance v x
    go true = refl
    go false = refl
event_apart plan t (event.Work d act) v x apart = (near_work d act v).others x apart
event_apart plan t (event.Timer d act) v x apart = (near_timer_act d act v).others x apart
event_apart plan t _ v x apart = refl
