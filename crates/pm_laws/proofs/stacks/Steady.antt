-- What a line leaves of a device's autosuspend delay, and of how often its callbacks have begun.
use Rattle.std.proofs.Common.{ℕ, zero, suc, ◌≡◌, ◌+◌, ◌<◌, ◌≤◌, Bool, true, false, List, [], ◌∷◌, ℤ, pos, length, map, slice_index_or, if◌then◌else◌, ap, refl, sym, ◌∙◌, subst, arith, inl, inr}
use Rattle.std.specs.Option.{unwrap_or}
use Rattle.std.specs.Ordering.{int_eq}
use Rattle.std.proofs.lemmas.Bool.{cases_lt}
use Rattle.std.proofs.lemmas.List.{get_or_past, length-set}
use Rattle.pm_base.specs.declared.Cb.{Cb}
use Rattle.pm_base.specs.declared.Cb.TheVariants as cb
use Rattle.pm_base.specs.declared.DevId.{DevId}
use Rattle.pm_base.specs.declared.Status.{Status}
use Rattle.pm_base.specs.declared.Status.TheVariants as status
use Rattle.pm_base.specs.declared.Why.{Why}
use Rattle.pm_base.specs.declared.Why.TheVariants as why
use Rattle.pm_model.specs.declared.event.Event.{Event}
use Rattle.pm_model.specs.declared.event.Event.TheVariants as event
use Rattle.pm_model.specs.declared.event.Word.{Word}
use Rattle.pm_model.specs.declared.event.Word.TheVariants as word
use Rattle.pm_model.specs.declared.plan.Plan.{Plan}
use Rattle.pm_model.specs.declared.rows.DeviceRow.{DeviceRow}
use Rattle.pm_model.specs.declared.stage.Change.{Change}
use Rattle.pm_model.specs.declared.stage.Change.TheVariants as change
use Rattle.pm_model.specs.declared.views.Device.{Device}
use Rattle.pm_model.specs.ChangeViews.{change_views, suspend_ended}
use Rattle.pm_model.specs.Changes.{callback_marks, disables, enables, has_auto_timer, rcancel, set_depth, set_held, set_present, set_setting}
use Rattle.pm_model.specs.Counted.{is_same, only_if}
use Rattle.pm_model.specs.Derived.{begun}
use Rattle.pm_model.specs.Events.{by_begin, by_end, by_event, by_word, got, gave, set_status, is_try_again}
use Rattle.pm_model.specs.PlanRows.{marks_busy}
use Rattle.pm_model.specs.Views.{Views, device, fresh_device, with_device}
use Rattle.pm_model.specs.World.{start_views}
use Rattle.pm_laws.proofs.counts.Asides.{work_kept, timer_kept, domain_kept}
use Rattle.pm_laws.proofs.counts.Turns.{entry_is, entry_kept, field_turned, freed_kept}
use Rattle.pm_laws.specs.stacks.Fit.{HasDelays, is_delay}
use Rattle.pm_laws.proofs.stacks.Tests.{same_device, same_self}

-- of a device: what no line changes but a setting, or a callback's begin
pub record Steady : Type 0 where
  pub delay : ℤ
  pub idle : ℕ
  pub suspend : ℕ
  pub resume : ℕ

abbrev pub steady_of : Device → Steady
steady_of x = record { delay = x.delay; idle = x.begun_idle; suspend = x.begun_suspend; resume = x.begun_resume }

got_steady : (plan : Plan) (e d : DevId) (w : Why) (v : Views) → steady_of (device (got plan e w v) d) ≡ steady_of (device v d)
unfolding set_held
got_steady plan e d why.Caller v = entry_kept steady_of v e d _ refl
got_steady plan e d why.Forbid v = entry_kept steady_of v e d _ refl
got_steady plan e d (why.Link c) v = refl
got_steady plan e d _ v = refl

gave_steady : (plan : Plan) (e d : DevId) (w : Why) (v : Views) → steady_of (device (gave plan e w v) d) ≡ steady_of (device v d)
unfolding set_held
gave_steady plan e d why.Caller v = entry_kept steady_of v e d _ refl
gave_steady plan e d why.Forbid v = entry_kept steady_of v e d _ refl
gave_steady plan e d (why.Link c) v = refl
gave_steady plan e d _ v = refl

status_steady : (s : Status) (e d : DevId) (v : Views) → steady_of (device (set_status s e v) d) ≡ steady_of (device v d)
status_steady s e d v = entry_kept steady_of v e d _ refl

word_steady : (plan : Plan) (t : ℕ) (e d : DevId) (w : Word) (v : Views)
    → steady_of (device (by_word plan t e w v) d) ≡ steady_of (device v d)
word_steady plan t e d word.Active v = entry_kept steady_of (set_status status.Active e v) e d _ refl ∙ status_steady status.Active e d v
word_steady plan t e d word.Resuming v = status_steady status.Resuming e d v
word_steady plan t e d word.Suspended v = status_steady status.Suspended e d v
word_steady plan t e d word.Deferred v = status_steady status.Suspended e d v
word_steady plan t e d word.ForcedActive v = entry_kept steady_of (set_status status.Active e v) e d _ refl ∙ status_steady status.Active e d v
word_steady plan t e d word.ForcedSuspended v =
    freed_kept steady_of (λ _ _. refl) plan e d _ ∙ entry_kept steady_of (set_status status.Suspended e v) e d _ refl ∙ status_steady status.Suspended e d v

either_steady : (b : Bool) (x y v : Views) (d : DevId) → steady_of (device x d) ≡ steady_of (device v d) → steady_of (device y d) ≡ steady_of (device v d)
    → steady_of (device (if b then x else y) d) ≡ steady_of (device v d)
either_steady true x y v d p q = p
either_steady false x y v d p q = q

end_steady : (e d : DevId) (k : Cb) (c : ℤ) (v : Views) → steady_of (device (by_end e k c v) d) ≡ steady_of (device v d)
end_steady e d cb.Idle c v = entry_kept steady_of v e d _ refl
end_steady e d cb.Suspend c v =
    either_steady (int_eq c (pos 0)) v _ v d refl
    (either_steady (is_try_again c) _ _ v d (status_steady status.Active e d v) (entry_kept steady_of (set_status status.Active e v) e d _ refl ∙ status_steady status.Active e d v))
end_steady e d cb.Resume c v = either_steady (int_eq c (pos 0)) v _ v d refl (entry_kept steady_of v e d _ refl)

abbrev pub IsNoBegin : Event → Type 0
IsNoBegin (event.Begin d k) = ⊥
IsNoBegin _ = Unit {0}

pub event_steady : (plan : Plan) (t : ℕ) (e : Event) (v : Views) (d : DevId) → IsNoBegin e
    → steady_of (device (by_event plan t e v) d) ≡ steady_of (device v d)
unfolding by_event
event_steady plan t (event.Get x w) v d other = got_steady plan x d w _ ∙ entry_kept steady_of v x d _ refl
event_steady plan t (event.Put x w) v d other = gave_steady plan x d w _ ∙ entry_kept steady_of v x d _ refl
event_steady plan t (event.State x w) v d other = word_steady plan t x d w v
event_steady plan t (event.Begin x k) v d other = elim other [ ]
event_steady plan t (event.End x k c) v d other = end_steady x d k c v
event_steady plan t (event.Domain x is_up n) v d other = domain_kept steady_of plan x d is_up v
event_steady plan t (event.Work x act) v d other = work_kept steady_of x d act v
event_steady plan t (event.Timer x act) v d other = timer_kept steady_of x d act v
event_steady plan t _ v d other = refl

-- a setting is one that a command may name
abbrev pub IsDelayed : Change → Type 0
IsDelayed (change.Set d use_auto delay) = is_delay delay ≡ true
IsDelayed _ = Unit {0}

abbrev pub IsNoSetting : Change → Type 0
IsNoSetting (change.Set d use_auto delay) = ⊥
IsNoSetting _ = Unit {0}

depth_steady : (n : ℕ) (e d : DevId) (v : Views) → steady_of (device (set_depth n e v) d) ≡ steady_of (device v d)
depth_steady n e d v = entry_kept steady_of v e d _ refl

marks_steady : (plan : Plan) (t : ℕ) (e d : DevId) (v : Views) → steady_of (device (callback_marks plan e t v) d) ≡ steady_of (device v d)
unfolding callback_marks
marks_steady plan t e d v = either_steady (marks_busy plan e) _ v v d (entry_kept steady_of v e d _ refl) refl

ended_steady : (plan : Plan) (t : ℕ) (c : ℤ) (e d : DevId) (v : Views)
    → steady_of (device (suspend_ended plan e c t v) d) ≡ steady_of (device v d)
unfolding suspend_ended
ended_steady plan t c e d v =
    let marked = marks_steady plan t e d v in either_steady (int_eq c (pos 0)) _ _ v d marked (either_steady (is_try_again c) _ _ v d marked marked)

enabled_steady : (e d : DevId) (v : Views) → steady_of (device (enables e v) d) ≡ steady_of (device v d)
unfolding enables
enabled_steady e d v =
    either_steady _ _ _ v d (entry_kept steady_of (set_depth 0 e v) e d _ refl ∙ depth_steady 0 e d v) (depth_steady _ e d v)

pub change_steady : (plan : Plan) (t : ℕ) (c : Change) (v : Views) (d : DevId) → IsNoSetting c
    → steady_of (device (change_views plan t c v) d) ≡ steady_of (device v d)
unfolding rcancel set_present
change_steady plan t (change.Set e use_auto delay) v d other = elim other [ ]
change_steady plan t (change.ResumeCancel e) v d other = either_steady (has_auto_timer v e) _ _ v d refl refl
change_steady plan t (change.CallbackMarks e) v d other = marks_steady plan t e d v
change_steady plan t (change.SuspendEnded e c) v d other = ended_steady plan t c e d v
change_steady plan t (change.MarkBusy e) v d other = entry_kept steady_of v e d _ refl
change_steady plan t (change.Enable e) v d other = enabled_steady e d v
change_steady plan t (change.Disable e) v d other = depth_steady _ e d v
change_steady plan t (change.DisableBusy e) v d other = depth_steady _ e d v
change_steady plan t (change.DisableAtOnce e) v d other = entry_kept steady_of (disables e v) e d _ refl ∙ depth_steady _ e d v
change_steady plan t (change.KeepStatus e) v d other = entry_kept steady_of v e d _ refl
change_steady plan t (change.Ignore e ignores) v d other = entry_kept steady_of v e d _ refl
change_steady plan t _ v d other = refl

-- how often a callback has begun
abbrev pub begun_in : Cb → Steady → ℕ
begun_in cb.Idle x = x.idle
begun_in cb.Suspend x = x.suspend
begun_in cb.Resume x = x.resume

begun_is : (k : Cb) (v : Views) (d : DevId) → begun v k d ≡ begun_in k (steady_of (device v d))
begun_is cb.Idle v d = refl
begun_is cb.Suspend v d = refl
begun_is cb.Resume v d = refl

same_begun : (k : Cb) (v v' : Views) (d : DevId) → steady_of (device v' d) ≡ steady_of (device v d) → begun v' k d ≡ begun v k d
same_begun k v v' d same = begun_is k v' d ∙ ap (begun_in k) same ∙ sym (begun_is k v d)

-- an entry changes, and the callback has begun as often there, or more
more_begun : (k : Cb) (v : Views) (e d : DevId) (x : Device) → d.0 < length v.devices → begun_in k (steady_of (device v e)) ≤ begun_in k (steady_of x)
    → begun v k d ≤ begun (with_device v e x) k d
more_begun k v e d x within more = rw (begun_is k v d, begun_is k (with_device v e x) d, entry_is v e d x within) (go (is_same d e) refl)
  where
    go : (b : Bool) → is_same d e ≡ b → begun_in k (steady_of (device v d)) ≤ begun_in k (steady_of (if b then x else device v d))
    go true same = subst (λ (z : DevId). begun_in k (steady_of (device v z)) ≤ begun_in k (steady_of x)) (same_device e d same) more
    go false other = omega arith

begin_begins : (j k : Cb) (v : Views) (e d : DevId) → d.0 < length v.devices → begun v k d ≤ begun (by_begin e j v) k d
begin_begins cb.Idle cb.Idle v e d within = more_begun cb.Idle v e d _ within (omega arith)
begin_begins cb.Idle cb.Suspend v e d within = more_begun cb.Suspend v e d _ within (omega arith)
begin_begins cb.Idle cb.Resume v e d within = more_begun cb.Resume v e d _ within (omega arith)
begin_begins cb.Suspend cb.Idle v e d within = more_begun cb.Idle v e d _ within (omega arith)
begin_begins cb.Suspend cb.Suspend v e d within = more_begun cb.Suspend v e d _ within (omega arith)
begin_begins cb.Suspend cb.Resume v e d within = more_begun cb.Resume v e d _ within (omega arith)
begin_begins cb.Resume cb.Idle v e d within = more_begun cb.Idle v e d _ within (omega arith)
begin_begins cb.Resume cb.Suspend v e d within = more_begun cb.Suspend v e d _ within (omega arith)
begin_begins cb.Resume cb.Resume v e d within = more_begun cb.Resume v e d _ within (omega arith)

-- after a line each callback has begun as often as before it, or more
event_begins : (plan : Plan) (t : ℕ) (e : Event) (v : Views) (k : Cb) (d : DevId) → d.0 < length v.devices → begun v k d ≤ begun (by_event plan t e v) k d
unfolding by_event
event_begins plan t (event.Begin x j) v k d within = begin_begins j k v x d within
event_begins plan t e v k d within = rw (same_begun k v (by_event plan t e v) d (event_steady plan t e v d tt)) (omega arith)

setting_begins : (k : Cb) (v : Views) (e d : DevId) (u : Bool) (n : ℤ) → begun (set_setting u n e v) k d ≡ begun v k d
setting_begins cb.Idle v e d u n = entry_kept (λ x. x.begun_idle) v e d _ refl
setting_begins cb.Suspend v e d u n = entry_kept (λ x. x.begun_suspend) v e d _ refl
setting_begins cb.Resume v e d u n = entry_kept (λ x. x.begun_resume) v e d _ refl

change_begins : (plan : Plan) (t : ℕ) (c : Change) (v : Views) (k : Cb) (d : DevId) → begun (change_views plan t c v) k d ≡ begun v k d
change_begins plan t (change.Set e u n) v k d = setting_begins k v e d u n
change_begins plan t c v k d = same_begun k v (change_views plan t c v) d (change_steady plan t c v d tt)

pub line_begins : (plan : Plan) (t : ℕ) (e : Event) (c : Change) (v : Views) (k : Cb) (d : DevId) → d.0 < length (change_views plan t c v).devices
    → begun v k d ≤ begun (by_event plan t e (change_views plan t c v)) k d
line_begins plan t e c v k d within = omega (arith, change_begins plan t c v k d, event_begins plan t e (change_views plan t c v) k d within)

-- the callback that a line begins has begun
one_more : (n m old : ℕ) (b : Bool) → b ≡ true → n ≡ unwrap_or (only_if b (m + 1)) old → 0 < n
one_more n m old true same is = omega arith
one_more n m old false same is = cc

pub has_begun_now : (plan : Plan) (t : ℕ) (k : Cb) (v : Views) (d : DevId) → d.0 < length v.devices → 0 < begun (by_event plan t (event.Begin d k) v) k d
unfolding by_event
has_begun_now plan t cb.Idle v d within = one_more _ _ _ (is_same d d) (same_self d.0) (field_turned (λ x. x.begun_idle) v d d _ within)
has_begun_now plan t cb.Suspend v d within = one_more _ _ _ (is_same d d) (same_self d.0) (field_turned (λ x. x.begun_suspend) v d d _ within)
has_begun_now plan t cb.Resume v d within = one_more _ _ _ (is_same d d) (same_self d.0) (field_turned (λ x. x.begun_resume) v d d _ within)

-- delays
event_delays : (plan : Plan) (t : ℕ) (e : Event) (v : Views) (d : DevId) → (device (by_event plan t e v) d).delay ≡ (device v d).delay
unfolding by_event
event_delays plan t (event.Begin x cb.Idle) v d = entry_kept (λ y. y.delay) v x d _ refl
event_delays plan t (event.Begin x cb.Suspend) v d = entry_kept (λ y. y.delay) v x d _ refl
event_delays plan t (event.Begin x cb.Resume) v d = entry_kept (λ y. y.delay) v x d _ refl
event_delays plan t e v d = ap (λ (y : Steady). y.delay) (event_steady plan t e v d tt)

-- what holds of an entry's new value and of the old one holds of either
pub entry_either : (P : Device → Type 0) (v : Views) (e d : DevId) (x : Device) → P x → P (device v d) → P (device (with_device v e x) d)
entry_either P v e d x new old = elim (cases_lt d.0 (length v.devices)) [
  | inl lt ↦ rw (entry_is v e d x lt) (go (is_same d e))
  | inr le ↦ let same : device (with_device v e x) d ≡ device v d = get_or_past _ d.0 fresh_device (omega (arith, length-set v.devices e.0 x)) ∙ sym (get_or_past v.devices d.0 fresh_device le) in subst P (sym same) old
]
  where
    go : (b : Bool) → P (if b then x else device v d)
    go true = new
    go false = old

change_delays : (plan : Plan) (t : ℕ) (c : Change) (v : Views) → HasDelays v → IsDelayed c → HasDelays (change_views plan t c v)
change_delays plan t (change.Set e u n) v has is d = entry_either (λ x. is_delay x.delay ≡ true) v e d _ is (has d)
change_delays plan t c v has is d = ap (λ (y : Steady). is_delay y.delay) (change_steady plan t c v d tt) ∙ has d

pub line_delays : (plan : Plan) (t : ℕ) (e : Event) (c : Change) (v : Views) → HasDelays v → IsDelayed c → HasDelays (by_event plan t e (change_views plan t c v))
line_delays plan t e c v has is d = ap is_delay (event_delays plan t e (change_views plan t c v) d) ∙ change_delays plan t c v has is d

start_delay : (l : List DeviceRow) (i : ℕ) → is_delay (let x : Device = slice_index_or (map (λ row. record fresh_device { ignores = row.ignore_children }) l) i fresh_device in x.delay) ≡ true
start_delay [] i = refl
start_delay (x ∷ l) zero = refl
start_delay (x ∷ l) (suc i) = start_delay l i

pub start_delays : (plan : Plan) → HasDelays (start_views plan)
start_delays plan d = start_delay plan.devices d.0
