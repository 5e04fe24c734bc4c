-- What a line's event makes of errors, of forbids, of idle callbacks and of callers' shares.
use Rattle.std.proofs.Common.{ℕ, ◌≡◌, ◌<◌, Bool, true, false, None, ℤ, pos, length, if◌then◌else◌, ap, refl, ◌∙◌}
use Rattle.std.specs.Option.{unwrap_or}
use Rattle.std.specs.Ordering.{int_eq}
use Rattle.pm_base.specs.declared.Cb.TheVariants as cb
use Rattle.pm_base.specs.declared.DevId.{DevId}
use Rattle.pm_base.specs.declared.Status.TheVariants as status
use Rattle.pm_base.specs.declared.Why.{Why}
use Rattle.pm_base.specs.declared.Why.TheVariants as why
use Rattle.pm_model.specs.declared.event.Event.{Event}
use Rattle.pm_model.specs.declared.event.Event.TheVariants as event
use Rattle.pm_model.specs.declared.event.TimerAct.{TimerAct}
use Rattle.pm_model.specs.declared.event.TimerAct.TheVariants.{Arm, Fire}
use Rattle.pm_model.specs.declared.event.Word.{Word}
use Rattle.pm_model.specs.declared.event.Word.TheVariants as word
use Rattle.pm_model.specs.declared.event.WorkAct.{WorkAct}
use Rattle.pm_model.specs.declared.event.WorkAct.TheVariants.{Queue, Defer, Run}
use Rattle.pm_model.specs.declared.plan.Plan.{Plan}
use Rattle.pm_model.specs.declared.views.Device.{Device}
use Rattle.pm_model.specs.Changes.{set_held}
use Rattle.pm_model.specs.Counted.{is_same, only_if, says_error, says_auto, says_runs}
use Rattle.pm_model.specs.Derived.{up, down}
use Rattle.pm_model.specs.Events.{by_event, by_word, by_end, by_work, by_timer, got, gave, set_status, set_error, is_try_again, switches}
use Rattle.pm_model.specs.Views.{Views, device, with_device}
use Rattle.pm_laws.proofs.counts.Turns.{within_set, entry_kept, field_turned, freed_kept}

abbrev error_of : Device → ℤ
error_of x = x.error

abbrev auto_of : Device → Bool
auto_of x = x.auto_on

abbrev idle_of : Device → Bool
idle_of x = x.idle_running

-- a field after an event that changes other entries
pub work_kept : {A : Type 0} (f : Device → A) (x d : DevId) (act : WorkAct) (v : Views) → f (device (by_work x act v) d) ≡ f (device v d)
work_kept f x d (Queue r) v = refl
work_kept f x d Defer v = refl
work_kept f x d (Run r) v = refl

pub timer_kept : {A : Type 0} (f : Device → A) (x d : DevId) (act : TimerAct) (v : Views) → f (device (by_timer x act v) d) ≡ f (device v d)
timer_kept f x d (Arm at auto_on) v = refl
timer_kept f x d (Fire auto_on) v = refl

pub domain_kept : {A : Type 0} (f : Device → A) (plan : Plan) (x d : DevId) (is_up : Bool) (v : Views)
    → f (device (if is_up then switches true (up plan v x) v else switches false (down plan v x) v) d) ≡ f (device v d)
domain_kept f plan x d true v = refl
domain_kept f plan x d false v = refl

-- errors
got_error : (plan : Plan) (e d : DevId) (w : Why) (v : Views) → error_of (device (got plan e w v) d) ≡ error_of (device v d)
unfolding set_held
got_error plan e d why.Caller v = entry_kept error_of v e d _ refl
got_error plan e d why.Forbid v = entry_kept error_of v e d _ refl
got_error plan e d (why.Link c) v = refl
got_error plan e d _ v = refl

gave_error : (plan : Plan) (e d : DevId) (w : Why) (v : Views) → error_of (device (gave plan e w v) d) ≡ error_of (device v d)
unfolding set_held
gave_error plan e d why.Caller v = entry_kept error_of v e d _ refl
gave_error plan e d why.Forbid v = entry_kept error_of v e d _ refl
gave_error plan e d (why.Link c) v = refl
gave_error plan e d _ v = refl

-- a status turns, and then an error is set
error_set : (x : ℤ) (e d : DevId) (v : Views) (y : Device) → d.0 < length v.devices → error_of y ≡ error_of (device v e)
    → error_of (device (set_error x e (with_device v e y)) d) ≡ unwrap_or (only_if (is_same d e) x) (error_of (device v d))
error_set x e d v y within same =
    field_turned error_of (with_device v e y) e d _ (within_set v e d y within) ∙ ap (unwrap_or (only_if (is_same d e) x)) (entry_kept error_of v e d y same)

word_error : (plan : Plan) (t : ℕ) (e d : DevId) (w : Word) (v : Views) → d.0 < length v.devices
    → error_of (device (by_word plan t e w v) d) ≡ unwrap_or (says_error d (event.State e w)) (error_of (device v d))
word_error plan t e d word.Active v within = entry_kept error_of (set_status status.Active e v) e d _ refl ∙ entry_kept error_of v e d _ refl
word_error plan t e d word.Resuming v within = entry_kept error_of v e d _ refl
word_error plan t e d word.Suspended v within = entry_kept error_of v e d _ refl
word_error plan t e d word.Deferred v within = entry_kept error_of v e d _ refl
word_error plan t e d word.ForcedActive v within = error_set (pos 0) e d v _ within refl
word_error plan t e d word.ForcedSuspended v within = freed_kept error_of (λ _ _. refl) plan e d _ ∙ error_set (pos 0) e d v _ within refl

suspended_error : (e d : DevId) (c : ℤ) (v : Views) → d.0 < length v.devices
    → error_of (device (by_end e cb.Suspend c v) d) ≡ unwrap_or (says_error d (event.End e cb.Suspend c)) (error_of (device v d))
suspended_error e d c v within = go (int_eq c (pos 0)) (is_try_again c)
  where
    go : (b again : Bool)
        → error_of (device (if b then v else (if again then set_status status.Active e v else set_error c e (set_status status.Active e v))) d)
        ≡ unwrap_or (if b then None else if again then None else only_if (is_same d e) c) (error_of (device v d))
    go true again = refl
    go false true = entry_kept error_of v e d _ refl
    go false false = error_set c e d v _ within refl

resumed_error : (e d : DevId) (c : ℤ) (v : Views) → d.0 < length v.devices
    → error_of (device (by_end e cb.Resume c v) d) ≡ unwrap_or (says_error d (event.End e cb.Resume c)) (error_of (device v d))
resumed_error e d c v within = go (int_eq c (pos 0))
  where
    go : (b : Bool) → error_of (device (if b then v else set_error c e v) d) ≡ unwrap_or (if b then None else only_if (is_same d e) c) (error_of (device v d))
    go true = refl
    go false = field_turned error_of v e d _ within

pub error_after : (plan : Plan) (t : ℕ) (e : Event) (v : Views) (d : DevId) → d.0 < length v.devices
    → error_of (device (by_event plan t e v) d) ≡ unwrap_or (says_error d e) (error_of (device v d))
unfolding by_event
error_after plan t (event.Get x w) v d within = got_error plan x d w _ ∙ entry_kept error_of v x d _ refl
error_after plan t (event.Put x w) v d within = gave_error plan x d w _ ∙ entry_kept error_of v x d _ refl
error_after plan t (event.State x w) v d within = word_error plan t x d w v within
error_after plan t (event.Begin x cb.Idle) v d within = entry_kept error_of v x d _ refl
error_after plan t (event.Begin x cb.Suspend) v d within = entry_kept error_of v x d _ refl
error_after plan t (event.Begin x cb.Resume) v d within = entry_kept error_of v x d _ refl
error_after plan t (event.End x cb.Idle c) v d within = entry_kept error_of v x d _ refl
error_after plan t (event.End x cb.Suspend c) v d within = suspended_error x d c v within
error_after plan t (event.End x cb.Resume c) v d within = resumed_error x d c v within
error_after plan t (event.Domain x is_up n) v d within = domain_kept error_of plan x d is_up v
error_after plan t (event.Work x act) v d within = work_kept error_of x d act v
error_after plan t (event.Timer x act) v d within = timer_kept error_of x d act v
error_after plan t _ v d within = refl

-- what statuses and errors leave of an entry
pub record Marks : Type 0 where
  pub auto_on : Bool
  pub idle_running : Bool
  pub share : ℕ

abbrev pub marks_of : Device → Marks
marks_of x = record { auto_on = x.auto_on; idle_running = x.idle_running; share = x.share }

pub word_marks : (plan : Plan) (t : ℕ) (e d : DevId) (w : Word) (v : Views) → marks_of (device (by_word plan t e w v) d) ≡ marks_of (device v d)
word_marks plan t e d word.Active v = entry_kept marks_of (set_status status.Active e v) e d _ refl ∙ entry_kept marks_of v e d _ refl
word_marks plan t e d word.Resuming v = entry_kept marks_of v e d _ refl
word_marks plan t e d word.Suspended v = entry_kept marks_of v e d _ refl
word_marks plan t e d word.Deferred v = entry_kept marks_of v e d _ refl
word_marks plan t e d word.ForcedActive v = entry_kept marks_of (set_status status.Active e v) e d _ refl ∙ entry_kept marks_of v e d _ refl
word_marks plan t e d word.ForcedSuspended v =
    freed_kept marks_of (λ _ _. refl) plan e d _ ∙ entry_kept marks_of (set_status status.Suspended e v) e d _ refl ∙ entry_kept marks_of v e d _ refl

pub suspended_marks : (e d : DevId) (c : ℤ) (v : Views) → marks_of (device (by_end e cb.Suspend c v) d) ≡ marks_of (device v d)
suspended_marks e d c v = go (int_eq c (pos 0)) (is_try_again c)
  where
    go : (b again : Bool)
        → marks_of (device (if b then v else (if again then set_status status.Active e v else set_error c e (set_status status.Active e v))) d) ≡ marks_of (device v d)
    go true again = refl
    go false true = entry_kept marks_of v e d _ refl
    go false false = entry_kept marks_of (set_status status.Active e v) e d _ refl ∙ entry_kept marks_of v e d _ refl

pub resumed_marks : (e d : DevId) (c : ℤ) (v : Views) → marks_of (device (by_end e cb.Resume c v) d) ≡ marks_of (device v d)
resumed_marks e d c v = go (int_eq c (pos 0))
  where
    go : (b : Bool) → marks_of (device (if b then v else set_error c e v) d) ≡ marks_of (device v d)
    go true = refl
    go false = entry_kept marks_of v e d _ refl

-- forbids
got_auto : (plan : Plan) (e d : DevId) (w : Why) (v : Views) → d.0 < length v.devices
    → auto_of (device (got plan e w v) d) ≡ unwrap_or (says_auto d (event.Get e w)) (auto_of (device v d))
unfolding set_held
got_auto plan e d why.Caller v within = entry_kept auto_of v e d _ refl
got_auto plan e d why.Forbid v within = field_turned auto_of v e d _ within
got_auto plan e d (why.Link c) v within = refl
got_auto plan e d _ v within = refl

gave_auto : (plan : Plan) (e d : DevId) (w : Why) (v : Views) → d.0 < length v.devices
    → auto_of (device (gave plan e w v) d) ≡ unwrap_or (says_auto d (event.Put e w)) (auto_of (device v d))
unfolding set_held
gave_auto plan e d why.Caller v within = entry_kept auto_of v e d _ refl
gave_auto plan e d why.Forbid v within = field_turned auto_of v e d _ within
gave_auto plan e d (why.Link c) v within = refl
gave_auto plan e d _ v within = refl

pub auto_after : (plan : Plan) (t : ℕ) (e : Event) (v : Views) (d : DevId) → d.0 < length v.devices
    → auto_of (device (by_event plan t e v) d) ≡ unwrap_or (says_auto d e) (auto_of (device v d))
unfolding by_event
auto_after plan t (event.Get x w) v d within =
    got_auto plan x d w _ (within_set v x d _ within) ∙ ap (unwrap_or (says_auto d (event.Get x w))) (entry_kept auto_of v x d _ refl)
auto_after plan t (event.Put x w) v d within =
    gave_auto plan x d w _ (within_set v x d _ within) ∙ ap (unwrap_or (says_auto d (event.Put x w))) (entry_kept auto_of v x d _ refl)
auto_after plan t (event.State x w) v d within = ap (λ (m : Marks). m.auto_on) (word_marks plan t x d w v)
auto_after plan t (event.Begin x cb.Idle) v d within = entry_kept auto_of v x d _ refl
auto_after plan t (event.Begin x cb.Suspend) v d within = entry_kept auto_of v x d _ refl
auto_after plan t (event.Begin x cb.Resume) v d within = entry_kept auto_of v x d _ refl
auto_after plan t (event.End x cb.Idle c) v d within = entry_kept auto_of v x d _ refl
auto_after plan t (event.End x cb.Suspend c) v d within = ap (λ (m : Marks). m.auto_on) (suspended_marks x d c v)
auto_after plan t (event.End x cb.Resume c) v d within = ap (λ (m : Marks). m.auto_on) (resumed_marks x d c v)
auto_after plan t (event.Domain x is_up n) v d within = domain_kept auto_of plan x d is_up v
auto_after plan t (event.Work x act) v d within = work_kept auto_of x d act v
auto_after plan t (event.Timer x act) v d within = timer_kept auto_of x d act v
auto_after plan t _ v d within = refl

-- idle callbacks
got_idle : (plan : Plan) (e d : DevId) (w : Why) (v : Views) → idle_of (device (got plan e w v) d) ≡ idle_of (device v d)
unfolding set_held
got_idle plan e d why.Caller v = entry_kept idle_of v e d _ refl
got_idle plan e d why.Forbid v = entry_kept idle_of v e d _ refl
got_idle plan e d (why.Link c) v = refl
got_idle plan e d _ v = refl

gave_idle : (plan : Plan) (e d : DevId) (w : Why) (v : Views) → idle_of (device (gave plan e w v) d) ≡ idle_of (device v d)
unfolding set_held
gave_idle plan e d why.Caller v = entry_kept idle_of v e d _ refl
gave_idle plan e d why.Forbid v = entry_kept idle_of v e d _ refl
gave_idle plan e d (why.Link c) v = refl
gave_idle plan e d _ v = refl

pub idle_after : (plan : Plan) (t : ℕ) (e : Event) (v : Views) (d : DevId) → d.0 < length v.devices
    → idle_of (device (by_event plan t e v) d) ≡ unwrap_or (says_runs cb.Idle d e) (idle_of (device v d))
unfolding by_event
idle_after plan t (event.Get x w) v d within = got_idle plan x d w _ ∙ entry_kept idle_of v x d _ refl
idle_after plan t (event.Put x w) v d within = gave_idle plan x d w _ ∙ entry_kept idle_of v x d _ refl
idle_after plan t (event.State x w) v d within = ap (λ (m : Marks). m.idle_running) (word_marks plan t x d w v)
idle_after plan t (event.Begin x cb.Idle) v d within = field_turned idle_of v x d _ within
idle_after plan t (event.Begin x cb.Suspend) v d within = entry_kept idle_of v x d _ refl
idle_after plan t (event.Begin x cb.Resume) v d within = entry_kept idle_of v x d _ refl
idle_after plan t (event.End x cb.Idle c) v d within = field_turned idle_of v x d _ within
idle_after plan t (event.End x cb.Suspend c) v d within = ap (λ (m : Marks). m.idle_running) (suspended_marks x d c v)
idle_after plan t (event.End x cb.Resume c) v d within = ap (λ (m : Marks). m.idle_running) (resumed_marks x d c v)
idle_after plan t (event.Domain x is_up n) v d within = domain_kept idle_of plan x d is_up v
idle_after plan t (event.Work x act) v d within = work_kept idle_of x d act v
idle_after plan t (event.Timer x act) v d within = timer_kept idle_of x d act v
idle_after plan t _ v d within = refl
