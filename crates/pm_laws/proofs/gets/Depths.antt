-- While nobody disables no depth rises.
use Rattle.std.proofs.Common.{ℕ, ◌≡◌, ◌-◌, ◌<◌, ◌≤◌, Bool, true, false, ℤ, pos, length, nat_eq, nat_lt, if◌then◌else◌, refl, ◌∙◌, subst, arith}
use Rattle.std.specs.Option.{unwrap_or}
use Rattle.std.specs.Ordering.{int_eq}
use Rattle.std.proofs.lemmas.Bool.{ltb-false}
use Rattle.pm_base.specs.declared.Cb.{Cb}
use Rattle.pm_base.specs.declared.Cb.TheVariants as cb
use Rattle.pm_base.specs.declared.DevId.{DevId}
use Rattle.pm_base.specs.declared.Status.{Status}
use Rattle.pm_base.specs.declared.Status.TheVariants as status
use Rattle.pm_base.specs.declared.Why.{Why}
use Rattle.pm_base.specs.declared.Why.TheVariants as why
use Rattle.pm_model.specs.declared.event.Event.{Event}
use Rattle.pm_model.specs.declared.event.Event.TheVariants as event
use Rattle.pm_model.specs.declared.event.Word.{Word}
use Rattle.pm_model.specs.declared.event.Word.TheVariants as word
use Rattle.pm_model.specs.declared.plan.Plan.{Plan}
use Rattle.pm_model.specs.declared.stage.Change.{Change}
use Rattle.pm_model.specs.declared.stage.Change.TheVariants as change
use Rattle.pm_model.specs.declared.views.Device.{Device}
use Rattle.pm_model.specs.ChangeViews.{change_views, suspend_ended}
use Rattle.pm_model.specs.Changes.{callback_marks, enables, has_auto_timer, rcancel, set_depth, set_held, set_present}
use Rattle.pm_model.specs.Counted.{is_same, only_if}
use Rattle.pm_model.specs.Derived.{is_disabled}
use Rattle.pm_model.specs.Events.{by_begin, by_end, by_event, by_word, got, gave, set_status, is_try_again}
use Rattle.pm_model.specs.PlanRows.{marks_busy}
use Rattle.pm_model.specs.Views.{Views, device, with_device}
use Rattle.pm_laws.proofs.counts.Asides.{work_kept, timer_kept, domain_kept}
use Rattle.pm_laws.proofs.counts.Turns.{entry_kept, field_turned, freed_kept}
use Rattle.pm_laws.proofs.stacks.Tests.{same_device}
use Rattle.pm_laws.proofs.gets.Calmly.{is_disabling}

abbrev depth_of : Device → ℕ
depth_of x = x.depth

-- an event changes no depth
got_depth : (plan : Plan) (e d : DevId) (w : Why) (v : Views) → depth_of (device (got plan e w v) d) ≡ depth_of (device v d)
unfolding set_held
got_depth plan e d why.Caller v = entry_kept depth_of v e d _ refl
got_depth plan e d why.Forbid v = entry_kept depth_of v e d _ refl
got_depth plan e d (why.Link c) v = refl
got_depth plan e d _ v = refl

gave_depth : (plan : Plan) (e d : DevId) (w : Why) (v : Views) → depth_of (device (gave plan e w v) d) ≡ depth_of (device v d)
unfolding set_held
gave_depth plan e d why.Caller v = entry_kept depth_of v e d _ refl
gave_depth plan e d why.Forbid v = entry_kept depth_of v e d _ refl
gave_depth plan e d (why.Link c) v = refl
gave_depth plan e d _ v = refl

status_depth : (s : Status) (e d : DevId) (v : Views) → depth_of (device (set_status s e v) d) ≡ depth_of (device v d)
status_depth s e d v = entry_kept depth_of v e d _ refl

word_depth : (plan : Plan) (t : ℕ) (e d : DevId) (w : Word) (v : Views) → depth_of (device (by_word plan t e w v) d) ≡ depth_of (device v d)
word_depth plan t e d word.Active v = entry_kept depth_of (set_status status.Active e v) e d _ refl ∙ status_depth status.Active e d v
word_depth plan t e d word.Resuming v = status_depth status.Resuming e d v
word_depth plan t e d word.Suspended v = status_depth status.Suspended e d v
word_depth plan t e d word.Deferred v = status_depth status.Suspended e d v
word_depth plan t e d word.ForcedActive v = entry_kept depth_of (set_status status.Active e v) e d _ refl ∙ status_depth status.Active e d v
word_depth plan t e d word.ForcedSuspended v =
    freed_kept depth_of (λ _ _. refl) plan e d _ ∙ entry_kept depth_of (set_status status.Suspended e v) e d _ refl ∙ status_depth status.Suspended e d v

either_depth : (b : Bool) (x y v : Views) (d : DevId) → depth_of (device x d) ≡ depth_of (device v d) → depth_of (device y d) ≡ depth_of (device v d)
    → depth_of (device (if b then x else y) d) ≡ depth_of (device v d)
either_depth true x y v d p q = p
either_depth false x y v d p q = q

begin_depth : (e d : DevId) (k : Cb) (v : Views) → depth_of (device (by_begin e k v) d) ≡ depth_of (device v d)
begin_depth e d cb.Idle v = entry_kept depth_of v e d _ refl
begin_depth e d cb.Suspend v = entry_kept depth_of v e d _ refl
begin_depth e d cb.Resume v = entry_kept depth_of v e d _ refl

end_depth : (e d : DevId) (k : Cb) (c : ℤ) (v : Views) → depth_of (device (by_end e k c v) d) ≡ depth_of (device v d)
end_depth e d cb.Idle c v = entry_kept depth_of v e d _ refl
end_depth e d cb.Suspend c v =
    either_depth (int_eq c (pos 0)) v _ v d refl
    (either_depth (is_try_again c) _ _ v d (status_depth status.Active e d v) (entry_kept depth_of (set_status status.Active e v) e d _ refl ∙ status_depth status.Active e d v))
end_depth e d cb.Resume c v = either_depth (int_eq c (pos 0)) v _ v d refl (entry_kept depth_of v e d _ refl)

event_depth : (plan : Plan) (t : ℕ) (e : Event) (v : Views) (d : DevId) → depth_of (device (by_event plan t e v) d) ≡ depth_of (device v d)
unfolding by_event
event_depth plan t (event.Get x w) v d = got_depth plan x d w _ ∙ entry_kept depth_of v x d _ refl
event_depth plan t (event.Put x w) v d = gave_depth plan x d w _ ∙ entry_kept depth_of v x d _ refl
event_depth plan t (event.State x w) v d = word_depth plan t x d w v
event_depth plan t (event.Begin x k) v d = begin_depth x d k v
event_depth plan t (event.End x k c) v d = end_depth x d k c v
event_depth plan t (event.Domain x is_up n) v d = domain_kept depth_of plan x d is_up v
event_depth plan t (event.Work x act) v d = work_kept depth_of x d act v
event_depth plan t (event.Timer x act) v d = timer_kept depth_of x d act v
event_depth plan t _ v d = refl

-- a lesser depth is set
chosen : (b : Bool) (n m : ℕ) → (b ≡ true → n ≤ m) → unwrap_or (only_if b n) m ≤ m
chosen true n m le = le refl
chosen false n m le = omega arith

lower_depth : (v : Views) (e d : DevId) (y : Device) → d.0 < length v.devices → depth_of y ≤ depth_of (device v e) → depth_of (device (with_device v e y) d) ≤ depth_of (device v d)
lower_depth v e d y within le =
    let turned = field_turned depth_of v e d y within in
    let least = chosen (is_same d e) (depth_of y) (depth_of (device v d)) (λ same. subst (λ z. depth_of y ≤ depth_of (device v z)) (same_device e d same) le) in
    omega (arith, turned, least)

enabled_depth : (e d : DevId) (v : Views) → d.0 < length v.devices → depth_of (device (enables e v) d) ≤ depth_of (device v d)
unfolding enables
enabled_depth e d v within = go (nat_eq (device v e).depth 1)
  where
    go : (b : Bool) → depth_of (device (if b then with_device (set_depth 0 e v) e (record (device (set_depth 0 e v) e) { last_active = false }) else set_depth ((device v e).depth - 1) e v) d) ≤ depth_of (device v d)
    go true =
        let last : depth_of (device (with_device (set_depth 0 e v) e (record (device (set_depth 0 e v) e) { last_active = false })) d) ≡ depth_of (device (set_depth 0 e v) d) = entry_kept depth_of (set_depth 0 e v) e d _ refl in
        omega (arith, last, lower_depth v e d (record (device v e) { depth = 0 }) within (omega arith))
    go false = lower_depth v e d (record (device v e) { depth = (device v e).depth - 1 }) within (omega arith)

marks_depth : (plan : Plan) (t : ℕ) (e d : DevId) (v : Views) → depth_of (device (callback_marks plan e t v) d) ≡ depth_of (device v d)
unfolding callback_marks
marks_depth plan t e d v = either_depth (marks_busy plan e) _ v v d (entry_kept depth_of v e d _ refl) refl

ended_depth : (plan : Plan) (t : ℕ) (c : ℤ) (e d : DevId) (v : Views) → depth_of (device (suspend_ended plan e c t v) d) ≡ depth_of (device v d)
unfolding suspend_ended
ended_depth plan t c e d v =
    let marked = marks_depth plan t e d v in either_depth (int_eq c (pos 0)) _ _ v d marked (either_depth (is_try_again c) _ _ v d marked marked)

least : (x y : ℕ) → x ≡ y → x ≤ y
least x y e = omega (arith, e)

change_depth : (plan : Plan) (t : ℕ) (c : Change) (v : Views) (d : DevId) → d.0 < length v.devices → is_disabling c ≡ false
    → depth_of (device (change_views plan t c v) d) ≤ depth_of (device v d)
unfolding rcancel set_present
change_depth plan t (change.ResumeCancel e) v d within keeps = least _ _ (either_depth (has_auto_timer v e) _ _ v d refl refl)
change_depth plan t (change.CallbackMarks e) v d within keeps = least _ _ (marks_depth plan t e d v)
change_depth plan t (change.SuspendEnded e c) v d within keeps = least _ _ (ended_depth plan t c e d v)
change_depth plan t (change.MarkBusy e) v d within keeps = least _ _ (entry_kept depth_of v e d _ refl)
change_depth plan t (change.Enable e) v d within keeps = enabled_depth e d v within
change_depth plan t (change.Disable e) v d within keeps = cc
change_depth plan t (change.DisableBusy e) v d within keeps = cc
change_depth plan t (change.DisableAtOnce e) v d within keeps = cc
change_depth plan t (change.KeepStatus e) v d within keeps = least _ _ (entry_kept depth_of v e d _ refl)
change_depth plan t (change.Set e use_auto delay) v d within keeps = least _ _ (entry_kept depth_of v e d _ refl)
change_depth plan t (change.Ignore e ignores) v d within keeps = least _ _ (entry_kept depth_of v e d _ refl)
change_depth plan t _ v d within keeps = least _ _ refl

none_less : (n m : ℕ) → n ≤ m → nat_lt 0 m ≡ false → nat_lt 0 n ≡ false
none_less n m le e = let zero : m ≤ 0 = ltb-false 0 m e in let none : n ≡ 0 = omega arith in rw none refl

-- an enabled device stays enabled
pub stays_enabled : (plan : Plan) (t : ℕ) (e : Event) (c : Change) (v : Views) (d : DevId) → d.0 < length v.devices → is_disabling c ≡ false → is_disabled v d ≡ false
    → is_disabled (by_event plan t e (change_views plan t c v)) d ≡ false
stays_enabled plan t e c v d within keeps enabled =
    none_less _ (device v d).depth (omega (arith, event_depth plan t e (change_views plan t c v) d, change_depth plan t c v d within keeps)) enabled
