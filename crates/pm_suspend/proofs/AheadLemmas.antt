-- When an autosuspend may begin, once a suspend callback has ended.
use Rattle.std.proofs.Common.{ℕ, ◌≡◌, ◌<◌, Bool, true, false, ℤ, pos, length, if◌then◌else◌, ap, refl, sym, ◌∙◌, subst}
use Rattle.std.specs.Ordering.{int_eq}
use Rattle.std.proofs.lemmas.List.{get_or-set_same, length-set}
use Rattle.pm_base.specs.declared.Cb.TheVariants as cb
use Rattle.pm_base.specs.declared.DevId.{DevId}
use Rattle.pm_base.specs.declared.Status.TheVariants as status
use Rattle.pm_model.specs.declared.event.Event.TheVariants as event
use Rattle.pm_model.specs.declared.plan.Plan.{Plan}
use Rattle.pm_model.specs.declared.views.Device.{Device}
use Rattle.pm_model.specs.Changes.{callback_marks, cancel, set_deferred, set_last_busy}
use Rattle.pm_model.specs.Derived.{expiry}
use Rattle.pm_model.specs.Events.{by_event, is_try_again, set_error, set_status, suspend_failed}
use Rattle.pm_model.specs.PlanRows.{marks_busy}
use Rattle.pm_model.specs.ChangeViews.{suspend_ended}
use Rattle.pm_model.specs.Views.{Views, device, fresh_device, with_device}
use Rattle.pm_suspend.specs.SuspendMove.{expiry_of, last_mark}

expiry_is : (v : Views) (d : DevId) → expiry v d ≡ expiry_of (device v d).use_auto (device v d).delay (device v d).last_busy
unfolding expiry
expiry_is v d = refl

expiry_with : (v : Views) (d : DevId) (x : Device) → d.0 < length v.devices → expiry (with_device v d x) d ≡ expiry_of x.use_auto x.delay x.last_busy
expiry_with v d x within =
    expiry_is (with_device v d x) d ∙ ap (λ (y : Device). expiry_of y.use_auto y.delay y.last_busy) (get_or-set_same v.devices d.0 x fresh_device within)

status_expiry : (v : Views) (d : DevId) → d.0 < length v.devices → expiry (set_status status.Active d v) d ≡ expiry v d
status_expiry v d within = expiry_with v d _ within ∙ sym (expiry_is v d)

error_expiry : (v : Views) (d : DevId) (c : ℤ) → d.0 < length v.devices → expiry (set_error c d v) d ≡ expiry v d
error_expiry v d c within = expiry_with v d _ within ∙ sym (expiry_is v d)

-- the status and the error of a device don't matter
failed_expiry : (v : Views) (d : DevId) (c : ℤ) → d.0 < length v.devices → expiry (suspend_failed d c v) d ≡ expiry v d
failed_expiry v d c within = go (is_try_again c)
  where
    go : (b : Bool) → expiry (if b then set_status status.Active d v else set_error c d (set_status status.Active d v)) d ≡ expiry v d
    go true = status_expiry v d within
    go false =
        error_expiry (set_status status.Active d v) d c (subst (λ n. d.0 < n) (sym (length-set v.devices d.0 _)) within) ∙ status_expiry v d within

marked_expiry : (plan : Plan) (d : DevId) (t : ℕ) (v : Views) → d.0 < length v.devices
    → expiry (callback_marks plan d t v) d ≡ expiry_of (device v d).use_auto (device v d).delay (if marks_busy plan d then t else (device v d).last_busy)
unfolding callback_marks
marked_expiry plan d t v within = go (marks_busy plan d)
  where
    go : (b : Bool) → expiry (if b then set_last_busy t d v else v) d ≡ expiry_of (device v d).use_auto (device v d).delay (if b then t else (device v d).last_busy)
    go true = expiry_with v d _ within
    go false = expiry_is v d

length-marked : (plan : Plan) (d : DevId) (t : ℕ) (v : Views) → length (callback_marks plan d t v).devices ≡ length v.devices
unfolding callback_marks
length-marked plan d t v = go (marks_busy plan d)
  where
    go : (b : Bool) → length (if b then set_last_busy t d v else v).devices ≡ length v.devices
    go true = length-set v.devices d.0 _
    go false = refl

deferred_expiry : (d : DevId) (v : Views) → expiry (set_deferred false d v) d ≡ expiry v d
unfolding expiry
deferred_expiry d v = refl

cancelled_expiry : (d : DevId) (v : Views) → expiry (cancel d (set_deferred false d v)) d ≡ expiry v d
unfolding expiry
cancelled_expiry d v = refl

-- the end of the callback leaves it as its mark does
pub ended_expiry : (plan : Plan) (d : DevId) (c : ℤ) (t : ℕ) (v : Views) → d.0 < length v.devices
    → expiry (by_event plan t (event.End d cb.Suspend c) (suspend_ended plan d c t v)) d ≡ expiry_of (device v d).use_auto (device v d).delay (last_mark plan v d t)
unfolding by_event suspend_ended
ended_expiry plan d c t v within = go (int_eq c (pos 0)) (is_try_again c)
  where
    marked : Views
    marked = callback_marks plan d t v

    inside : d.0 < length marked.devices
    inside = subst (λ n. d.0 < n) (sym (length-marked plan d t v)) within

    go : (ok again : Bool)
        → expiry (let w = if ok then marked else if again then set_deferred false d marked else cancel d (set_deferred false d marked) in if ok then w else suspend_failed d c w) d
        ≡ expiry_of (device v d).use_auto (device v d).delay (if marks_busy plan d then t else (device v d).last_busy)
    go true again = marked_expiry plan d t v within
    go false true = failed_expiry (set_deferred false d marked) d c inside ∙ deferred_expiry d marked ∙ marked_expiry plan d t v within
    go false false = failed_expiry (cancel d (set_deferred false d marked)) d c inside ∙ cancelled_expiry d marked ∙ marked_expiry plan d t v within
