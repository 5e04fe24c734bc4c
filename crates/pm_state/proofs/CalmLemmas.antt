-- The changes that a row names beside its event leave each device's usage, share and begun callbacks, and the held
-- links, as they are; so does a forced status, before the held links are given back.
use Rattle.std.proofs.Common.{ℕ, ◌≡◌, ◌+◌, Bool, true, false, ◌&&◌, List, [], ◌∷◌, ℤ, length, map, nat_le, nat_lt, pos, slice_index_or, if◌then◌else◌, refl, ap, sym, ◌∙◌}
use Rattle.std.specs.List.{enumerate_from, list_all}
use Rattle.std.specs.Ordering.{int_eq}
use Rattle.std.proofs.Math.ListN.{get_or-map}
use Rattle.std.proofs.Math.Seq.{map-set_same}
use Rattle.pm_base.specs.declared.Cb.{Cb}
use Rattle.pm_base.specs.declared.Cb.TheVariants as cb
use Rattle.pm_base.specs.declared.DevId.{DevId}
use Rattle.pm_base.specs.declared.Pending.{Pending}
use Rattle.pm_base.specs.declared.Status.TheVariants.{Suspended}
use Rattle.pm_base.specs.declared.Why.{Why}
use Rattle.pm_base.specs.declared.Why.TheVariants as why
use Rattle.pm_model.specs.declared.event.Event.{Event}
use Rattle.pm_model.specs.declared.event.Event.TheVariants as event
use Rattle.pm_model.specs.declared.event.Word.{Word}
use Rattle.pm_model.specs.declared.event.Word.TheVariants as word
use Rattle.pm_model.specs.declared.plan.Plan.{Plan}
use Rattle.pm_model.specs.declared.stage.Change.{Change}
use Rattle.pm_model.specs.declared.stage.Change.TheVariants as change
use Rattle.pm_model.specs.declared.views.Device.{Device}
use Rattle.pm_model.specs.CanTake.{can_free, can_get, can_happen, can_put, can_say, has_room}
use Rattle.pm_model.specs.Changes.{callback_marks, cancel, cancel_all, disabled_at_once, disables, disarm, enables, has_auto_timer, rcancel, set_deferred, set_depth, set_present}
use Rattle.pm_model.specs.ChangeViews.{change_views, suspend_ended}
use Rattle.pm_model.specs.Derived.{begun}
use Rattle.pm_model.specs.Events.{held_from, is_try_again, set_error, set_status}
use Rattle.pm_model.specs.PlanRows.{marks_busy}
use Rattle.pm_model.specs.Views.{Views, device, fresh_device, with_device, with_pending}
use Rattle.pm_model.specs.WellFormed.{is_in}

-- the counts of a device that the condition on an event reads
record Tally : Type 0 where
  pub usage : ℕ
  pub share : ℕ
  pub begun_idle : ℕ
  pub begun_suspend : ℕ
  pub begun_resume : ℕ

abbrev tally_of : Device → Tally
tally_of x = record {
  usage = x.usage;
  share = x.share;
  begun_idle = x.begun_idle;
  begun_suspend = x.begun_suspend;
  begun_resume = x.begun_resume;
}

-- of views that became others: each of these counts, and what is held, is as it was
record IsCalm (v w : Views) : Type 0 where
  pub tallies : map tally_of w.devices ≡ map tally_of v.devices
  pub held : w.held ≡ v.held

same_calm : (v : Views) → IsCalm v v
same_calm v = record { tallies = refl; held = refl }

then_calm : (u v w : Views) → IsCalm u v → IsCalm v w → IsCalm u w
then_calm u v w first second = record { tallies = second.tallies ∙ first.tallies; held = second.held ∙ first.held }

either_views : (v : Views) (g : Bool) (a b : Views) → IsCalm v a → IsCalm v b → IsCalm v (if g then a else b)
either_views v true a b this other = this
either_views v false a b this other = other

-- the kinds of change
pending_calm : (v : Views) (d : DevId) (x : Pending) → IsCalm v (with_pending v d x)
pending_calm v d x = record { tallies = refl; held = refl }

disarm_calm : (v : Views) (d : DevId) → IsCalm v (disarm d v)
disarm_calm v d = record { tallies = refl; held = refl }

cancel_calm : (v : Views) (d : DevId) → IsCalm v (cancel d v)
cancel_calm v d = record { tallies = refl; held = refl }

cancel_all_calm : (v : Views) (d : DevId) → IsCalm v (cancel_all d v)
cancel_all_calm v d = record { tallies = refl; held = refl }

rcancel_calm : (v : Views) (d : DevId) → IsCalm v (rcancel d v)
unfolding rcancel
rcancel_calm v d = either_views v (has_auto_timer v d) _ _ (pending_calm v d _) (cancel_calm v d)

present_calm : (plan : Plan) (v : Views) (c s : DevId) (b : Bool) → IsCalm v (set_present plan c s b v)
unfolding set_present
present_calm plan v c s b = record { tallies = refl; held = refl }

-- a device gets other entries with the same counts
device_calm : (v : Views) (e : DevId) (x : Device) → tally_of x ≡ tally_of (device v e) → IsCalm v (with_device v e x)
device_calm v e x kept = record { tallies = map-set_same tally_of v.devices e.0 x fresh_device kept; held = refl }

marks_calm : (plan : Plan) (v : Views) (d : DevId) (t : ℕ) → IsCalm v (callback_marks plan d t v)
unfolding callback_marks
marks_calm plan v d t = either_views v (marks_busy plan d) _ _ (device_calm v d _ refl) (same_calm v)

enables_calm : (v : Views) (d : DevId) → IsCalm v (enables d v)
unfolding enables
enables_calm v d = either_views v _ _ _ (then_calm v (set_depth 0 d v) _ (device_calm v d _ refl) (device_calm (set_depth 0 d v) d _ refl)) (device_calm v d _ refl)

disables_calm : (v : Views) (d : DevId) → IsCalm v (disables d v)
disables_calm v d = device_calm v d _ refl

disables_all_calm : (v : Views) (d : DevId) → IsCalm v (cancel_all d (disables d v))
disables_all_calm v d = then_calm v (disables d v) _ (disables_calm v d) (cancel_all_calm (disables d v) d)

at_once_calm : (v : Views) (d : DevId) → IsCalm v (disabled_at_once d v)
at_once_calm v d = then_calm v (cancel_all d (disables d v)) _ (disables_all_calm v d) (device_calm (cancel_all d (disables d v)) d _ refl)

-- a suspend callback ended
ended_calm : (plan : Plan) (v : Views) (d : DevId) (c : ℤ) (t : ℕ) → IsCalm v (suspend_ended plan d c t v)
unfolding suspend_ended
ended_calm plan v d c t =
    let marked = callback_marks plan d t v in
    let marks = marks_calm plan v d t in
    either_views v (int_eq c (pos 0)) marked _ marks
    (either_views v (is_try_again c) (set_deferred false d marked) (cancel d (set_deferred false d marked)) (then_calm v marked _ marks (pending_calm marked d _))
    (then_calm v (set_deferred false d marked) _ (then_calm v marked _ marks (pending_calm marked d _)) (cancel_calm (set_deferred false d marked) d)))

-- each change that a row may name
change_calm : (plan : Plan) (t : ℕ) (c : Change) (v : Views) → IsCalm v (change_views plan t c v)
change_calm plan t change.Same v = same_calm v
change_calm plan t (change.CancelRequest d) v = pending_calm v d _
change_calm plan t (change.Disarm d) v = disarm_calm v d
change_calm plan t (change.Cancel d) v = cancel_calm v d
change_calm plan t (change.CancelAll d) v = cancel_all_calm v d
change_calm plan t (change.ResumeCancel d) v = rcancel_calm v d
change_calm plan t (change.CallbackMarks d) v = marks_calm plan v d t
change_calm plan t (change.SuspendEnded d c) v = ended_calm plan v d c t
change_calm plan t (change.MarkBusy d) v = device_calm v d _ refl
change_calm plan t (change.Enable d) v = enables_calm v d
change_calm plan t (change.Disable d) v = disables_calm v d
change_calm plan t (change.DisableBusy d) v = disables_all_calm v d
change_calm plan t (change.DisableAtOnce d) v = at_once_calm v d
change_calm plan t (change.KeepStatus d) v = device_calm v d _ refl
change_calm plan t (change.Set d use_auto delay) v = device_calm v d _ refl
change_calm plan t (change.Ignore d ignores) v = device_calm v d _ refl
change_calm plan t (change.Link c s present) v = present_calm plan v c s present

-- a status is forced
forced_calm : (v : Views) (d : DevId) → IsCalm v (disarm d (set_error (pos 0) d (set_status Suspended d v)))
forced_calm v d =
    let said = set_status Suspended d v in
    then_calm v said _ (device_calm v d _ refl) (then_calm said (set_error (pos 0) d said) _ (device_calm said d _ refl) (disarm_calm (set_error (pos 0) d said) d))

-- what the counters can take before calm changes, they can take after them
tally_kept : (v w : Views) (d : DevId) → IsCalm v w → tally_of (device w d) ≡ tally_of (device v d)
tally_kept v w d calm =
    sym (get_or-map tally_of w.devices d.0 fresh_device)
    ∙ ap (λ l. slice_index_or l d.0 (tally_of fresh_device)) calm.tallies
    ∙ get_or-map tally_of v.devices d.0 fresh_device

-- each of these, counted from i, has as many counts as these
abbrev have_counts : (ℕ → ℕ) → ℕ → List Tally → Bool
have_counts counts i tallies = list_all (λ p. nat_le (counts p.0) p.1.usage) (enumerate_from i tallies)

counts-tallies : (counts : ℕ → ℕ) (i : ℕ) (devices : List Device) → have_counts counts i (map tally_of devices) ≡ list_all (λ p. nat_le (counts p.0) p.1.usage) (enumerate_from i devices)
counts-tallies counts i [] = refl
counts-tallies counts i (x ∷ devices) = ap (λ b. nat_le (counts i) x.usage && b) (counts-tallies counts (i + 1) devices)

free_kept : (plan : Plan) (v w : Views) (d : DevId) → IsCalm v w → can_free plan w d ≡ can_free plan v d
free_kept plan v w d calm =
    sym (counts-tallies (held_from plan w.held d) 0 w.devices)
    ∙ ap (have_counts (held_from plan w.held d) 0) calm.tallies
    ∙ ap (λ held. have_counts (held_from plan held d) 0 (map tally_of v.devices)) calm.held
    ∙ counts-tallies (held_from plan v.held d) 0 v.devices

get_kept : (v w : Views) (d : DevId) (y : Why) → IsCalm v w → can_get w d y ≡ can_get v d y
get_kept v w d why.Caller calm = ap (λ (x : Tally). has_room x.usage && has_room x.share) (tally_kept v w d calm)
get_kept v w d _ calm = ap (λ (x : Tally). has_room x.usage) (tally_kept v w d calm)

put_kept : (v w : Views) (d : DevId) (y : Why) → IsCalm v w → can_put w d y ≡ can_put v d y
put_kept v w d why.Caller calm = ap (λ (x : Tally). nat_lt 0 x.usage && nat_lt 0 x.share) (tally_kept v w d calm)
put_kept v w d _ calm = ap (λ (x : Tally). nat_lt 0 x.usage) (tally_kept v w d calm)

say_kept : (plan : Plan) (v w : Views) (d : DevId) (y : Word) → IsCalm v w → can_say plan w d y ≡ can_say plan v d y
say_kept plan v w d word.ForcedSuspended calm = free_kept plan v w d calm
say_kept plan v w d _ calm = refl

begun_kept : (v w : Views) (k : Cb) (d : DevId) → IsCalm v w → begun w k d ≡ begun v k d
begun_kept v w cb.Idle d calm = ap (λ (x : Tally). x.begun_idle) (tally_kept v w d calm)
begun_kept v w cb.Suspend d calm = ap (λ (x : Tally). x.begun_suspend) (tally_kept v w d calm)
begun_kept v w cb.Resume d calm = ap (λ (x : Tally). x.begun_resume) (tally_kept v w d calm)

happen_kept : (plan : Plan) (v w : Views) (e : Event) → IsCalm v w → can_happen plan w e ≡ can_happen plan v e
happen_kept plan v w (event.Get d y) calm = ap (λ b. is_in (length plan.devices) d && b) (get_kept v w d y calm)
happen_kept plan v w (event.Put d y) calm = ap (λ b. is_in (length plan.devices) d && b) (put_kept v w d y calm)
happen_kept plan v w (event.State d y) calm = ap (λ b. is_in (length plan.devices) d && b) (say_kept plan v w d y calm)
happen_kept plan v w (event.Begin d k) calm = ap (λ n. is_in (length plan.devices) d && has_room n) (begun_kept v w k d calm)
happen_kept plan v w _ calm = refl

-- what can happen before the change that a row names can happen after it
pub can_happen_after : (plan : Plan) (v : Views) (c : Change) (t : ℕ) (e : Event) → can_happen plan v e ≡ true → can_happen plan (change_views plan t c v) e ≡ true
can_happen_after plan v c t e can = happen_kept plan v (change_views plan t c v) e (change_calm plan t c v) ∙ can

-- where the held links can be freed before a status is forced, they can be freed then
pub can_free_forced : (plan : Plan) (v : Views) (d : DevId) → can_free plan v d ≡ true → can_free plan (disarm d (set_error (pos 0) d (set_status Suspended d v))) d ≡ true
can_free_forced plan v d can = free_kept plan v _ d (forced_calm v d) ∙ can
