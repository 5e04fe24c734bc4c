-- The change that a row names leaves all that the laws see, but for what a setting of autosuspend counts: said once of each
-- of the seventeen changes, for every row.
use Rattle.std.proofs.Common.{ℕ, ◌≡◌, Bool, false, None, ℤ, pos, nat_eq, ap, refl, ◌∙◌}
use Rattle.std.specs.Ordering.{int_eq}
use Rattle.std.proofs.lemmas.List.{length-set}
use Rattle.pm_base.specs.declared.DevId.{DevId}
use Rattle.pm_model.specs.declared.plan.Plan.{Plan}
use Rattle.pm_model.specs.declared.stage.Change.{Change}
use Rattle.pm_model.specs.declared.stage.Change.TheVariants as change
use Rattle.pm_model.specs.Changes.{callback_marks, cancel, cancel_all, disables, disables_busy, enables, has_auto_timer, rcancel, set_deferred, set_depth, set_last, set_setting}
use Rattle.pm_model.specs.ChangeViews.{change_views, suspend_ended}
use Rattle.pm_model.specs.Derived.{is_active, prevented}
use Rattle.pm_model.specs.Events.{is_try_again}
use Rattle.pm_model.specs.PlanRows.{marks_busy}
use Rattle.pm_model.specs.Views.{Views, device}
use Rattle.pm_laws.specs.counts.Sizes.{HasEntries}
use Rattle.pm_laws.proofs.counts.Seen.{Account, Untouched, account_seen, aside_of, device_calm, either_calm, entries_seen, last_busy_calm, pending_calm, seen, status_of, status_seen, timer_calm, untouched_seen, usage_of}
use Rattle.pm_laws.proofs.counts.Turns.{entry_kept, present_calm}

-- a setting is calm where suspends are prevented after it as they were before; every other change is calm
abbrev pub IsCalm : Views → Change → Type 0
IsCalm v (change.Set d use_auto delay) = prevented (device v d).use_auto (device v d).delay ≡ prevented use_auto delay
IsCalm v _ = Unit {0}

cancel_calm : (d : DevId) (v : Views) → seen (cancel d v) ≡ seen v
cancel_calm d v = timer_calm _ d None ∙ pending_calm v d _

cancel_all_calm : (d : DevId) (v : Views) → seen (cancel_all d v) ≡ seen v
cancel_all_calm d v = pending_calm (cancel d v) d _ ∙ cancel_calm d v

rcancel_calm : (d : DevId) (v : Views) → seen (rcancel d v) ≡ seen v
unfolding rcancel
rcancel_calm d v = either_calm (has_auto_timer v d) v _ _ (pending_calm v d _) (cancel_calm d v)

marks_calm : (plan : Plan) (d : DevId) (t : ℕ) (v : Views) → seen (callback_marks plan d t v) ≡ seen v
unfolding callback_marks
marks_calm plan d t v = either_calm (marks_busy plan d) v _ _ (last_busy_calm t d v) refl

depth_calm : (n : ℕ) (d : DevId) (v : Views) → seen (set_depth n d v) ≡ seen v
depth_calm n d v = device_calm v d _ refl refl refl

last_calm : (b : Bool) (d : DevId) (v : Views) → seen (set_last b d v) ≡ seen v
last_calm b d v = device_calm v d _ refl refl refl

enables_calm : (d : DevId) (v : Views) → seen (enables d v) ≡ seen v
unfolding enables
enables_calm d v =
    either_calm (nat_eq (device v d).depth 1) v _ _ (last_calm false d (set_depth 0 d v) ∙ depth_calm 0 d v) (depth_calm _ d v)

disables_busy_calm : (d : DevId) (v : Views) → seen (disables_busy d v) ≡ seen v
disables_busy_calm d v = cancel_all_calm d (disables d v) ∙ depth_calm _ d v

ended_calm : (plan : Plan) (d : DevId) (c : ℤ) (t : ℕ) (v : Views) → seen (suspend_ended plan d c t v) ≡ seen v
unfolding suspend_ended
ended_calm plan d c t v =
    let marked : Views = callback_marks plan d t v in
    let calm : seen marked ≡ seen v = marks_calm plan d t v in
    either_calm (int_eq c (pos 0)) v _ _ calm
    (either_calm (is_try_again c) v _ _ (pending_calm marked d _ ∙ calm) (cancel_calm d (set_deferred false d marked) ∙ pending_calm marked d _ ∙ calm))

pub change_calm : (plan : Plan) (t : ℕ) (c : Change) (v : Views) → HasEntries plan v → IsCalm v c → seen (change_views plan t c v) ≡ seen v
change_calm plan t change.Same v h is = refl
change_calm plan t (change.CancelRequest d) v h is = pending_calm v d _
change_calm plan t (change.Disarm d) v h is = timer_calm v d _
change_calm plan t (change.Cancel d) v h is = cancel_calm d v
change_calm plan t (change.CancelAll d) v h is = cancel_all_calm d v
change_calm plan t (change.ResumeCancel d) v h is = rcancel_calm d v
change_calm plan t (change.CallbackMarks d) v h is = marks_calm plan d t v
change_calm plan t (change.SuspendEnded d c) v h is = ended_calm plan d c t v
change_calm plan t (change.MarkBusy d) v h is = last_busy_calm t d v
change_calm plan t (change.Enable d) v h is = enables_calm d v
change_calm plan t (change.Disable d) v h is = depth_calm _ d v
change_calm plan t (change.DisableBusy d) v h is = disables_busy_calm d v
change_calm plan t (change.DisableAtOnce d) v h is = last_calm (is_active v d) d (disables_busy d v) ∙ disables_busy_calm d v
change_calm plan t (change.KeepStatus d) v h is = last_calm (is_active v d) d v
change_calm plan t (change.Set d use_auto delay) v h is = device_calm v d _ refl (rw is refl) refl
change_calm plan t (change.Ignore d ignores) v h is = device_calm v d _ refl refl refl
change_calm plan t (change.Link c s present) v h is = present_calm plan c s present v h

-- what every change leaves: the entries, the statuses, the usages and what no change touches
pub record Beside (plan : Plan) (v v' : Views) : Type 0 where
  pub entries : HasEntries plan v'
  pub still : (d : DevId) → status_of (device v' d) ≡ status_of (device v d)
  pub usages : (d : DevId) → usage_of (device v' d) ≡ usage_of (device v d)
  pub untouched : Untouched v v'

beside_seen : (plan : Plan) (v v' : Views) → HasEntries plan v → seen v' ≡ seen v → Beside plan v v'
beside_seen plan v v' h c = record {
  entries = entries_seen plan v v' c h;
  still = λ d. status_seen v v' d c;
  usages = λ d. ap (λ (z : Account). z.usage) (account_seen v v' d c);
  untouched = untouched_seen v v' c;
}

beside_setting : (plan : Plan) (v : Views) (u : Bool) (n : ℤ) (e : DevId) → HasEntries plan v → Beside plan v (set_setting u n e v)
beside_setting plan v u n e h = record {
  entries = record { devices = length-set v.devices e.0 _ ∙ h.devices; pending = h.pending; timers = h.timers; on = h.on; held = h.held; present = h.present };
  still = λ d. entry_kept status_of v e d _ refl;
  usages = λ d. entry_kept usage_of v e d _ refl;
  untouched = record { asides = λ d. entry_kept aside_of v e d _ refl; held = refl; domains = refl };
}

pub beside : (plan : Plan) (t : ℕ) (c : Change) (v : Views) → HasEntries plan v → Beside plan v (change_views plan t c v)
beside plan t (change.Set d use_auto delay) v h = beside_setting plan v use_auto delay d h
beside plan t c v h = beside_seen plan v (change_views plan t c v) h (change_calm plan t c v h tt)
