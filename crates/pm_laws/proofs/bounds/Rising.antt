-- A line raises a device's depth by at most one, and marks it busy no later than at its own time.
use Rattle.std.proofs.Common.{ℕ, zero, suc, ◌≡◌, ◌≤◌, Bool, true, false, List, [], ◌∷◌, ℤ, pos, length, map, nat_eq, slice_index_or, if◌then◌else◌, refl, sym, subst, arith}
use Rattle.std.specs.Ordering.{int_eq}
use Rattle.pm_base.specs.declared.Cb.{Cb}
use Rattle.pm_base.specs.declared.Cb.TheVariants as cb
use Rattle.pm_base.specs.declared.DevId.{DevId}
use Rattle.pm_base.specs.declared.Status.TheVariants as status
use Rattle.pm_base.specs.declared.Why.{Why}
use Rattle.pm_base.specs.declared.Why.TheVariants as why
use Rattle.pm_model.specs.declared.event.Event.{Event}
use Rattle.pm_model.specs.declared.event.Event.TheVariants as event
use Rattle.pm_model.specs.declared.event.Line.{Line}
use Rattle.pm_model.specs.declared.event.Word.{Word}
use Rattle.pm_model.specs.declared.event.Word.TheVariants as word
use Rattle.pm_model.specs.declared.plan.Plan.{Plan}
use Rattle.pm_model.specs.declared.rows.DeviceRow.{DeviceRow}
use Rattle.pm_model.specs.declared.stage.Change.{Change}
use Rattle.pm_model.specs.declared.stage.Change.TheVariants as change
use Rattle.pm_model.specs.declared.views.Device.{Device}
use Rattle.pm_model.specs.ChangeViews.{change_views, suspend_ended}
use Rattle.pm_model.specs.Changes.{callback_marks, disables, disarm, enables, has_auto_timer, rcancel, set_depth, set_held, set_present}
use Rattle.pm_model.specs.Events.{by_end, by_event, by_word, got, gave, is_try_again, set_error, set_status}
use Rattle.pm_model.specs.Lawful.{IsLawful, last_time}
use Rattle.pm_model.specs.PlanRows.{marks_busy}
use Rattle.pm_model.specs.Views.{Views, device, fresh_device, with_device}
use Rattle.pm_model.specs.World.{start_views, world}
use Rattle.pm_laws.proofs.counts.Asides.{domain_kept, timer_kept, work_kept}
use Rattle.pm_laws.proofs.counts.Runs.{lawful_holds, permitted}
use Rattle.pm_laws.proofs.counts.Said.{views_next}
use Rattle.pm_laws.proofs.counts.Turns.{freed_kept}
use Rattle.pm_laws.proofs.stacks.Steady.{entry_either}

-- of a device: how often it is disabled, and when it was last marked busy
pub record Span : Type 0 where
  pub depth : ℕ
  pub last_busy : ℕ

abbrev pub span_of : Device → Span
span_of x = record { depth = x.depth; last_busy = x.last_busy }

-- disabled at most n times, and marked busy no later than at t
abbrev pub IsWithin : ℕ → ℕ → Span → Type 0
IsWithin n t x = (x.depth ≤ n) × (x.last_busy ≤ t)

abbrev pub AreWithin : ℕ → ℕ → Views → Type 0
AreWithin n t v = (d : DevId) → IsWithin n t (span_of (device v d))

-- one entry changes
entry : (n t : ℕ) (v : Views) (e : DevId) (x : Device) → IsWithin n t (span_of x) → AreWithin n t v → AreWithin n t (with_device v e x)
entry n t v e x new all d = entry_either (λ y. IsWithin n t (span_of y)) v e d x new (all d)

either_within : (n t : ℕ) (b : Bool) (x y : Views) → AreWithin n t x → AreWithin n t y → AreWithin n t (if b then x else y)
either_within n t true x y p q = p
either_within n t false x y p q = q

-- events
got_within : (plan : Plan) (n t : ℕ) (e : DevId) (w : Why) (v : Views) → AreWithin n t v → AreWithin n t (got plan e w v)
unfolding set_held
got_within plan n t e why.Caller v all = entry n t v e _ (all e) all
got_within plan n t e why.Forbid v all = entry n t v e _ (all e) all
got_within plan n t e (why.Link c) v all = all
got_within plan n t e _ v all = all

gave_within : (plan : Plan) (n t : ℕ) (e : DevId) (w : Why) (v : Views) → AreWithin n t v → AreWithin n t (gave plan e w v)
unfolding set_held
gave_within plan n t e why.Caller v all = entry n t v e _ (all e) all
gave_within plan n t e why.Forbid v all = entry n t v e _ (all e) all
gave_within plan n t e (why.Link c) v all = all
gave_within plan n t e _ v all = all

word_within : (plan : Plan) (n t : ℕ) (e : DevId) (w : Word) (v : Views) → AreWithin n t v → AreWithin n t (by_word plan t e w v)
word_within plan n t e word.Active v all =
    let one : AreWithin n t (set_status status.Active e v) = entry n t v e _ (all e) all in
    entry n t (set_status status.Active e v) e _ ((one e).0, omega arith) one
word_within plan n t e word.Resuming v all = entry n t v e _ (all e) all
word_within plan n t e word.Suspended v all = entry n t v e _ (all e) all
word_within plan n t e word.Deferred v all = entry n t v e _ (all e) all
word_within plan n t e word.ForcedActive v all =
    let one : AreWithin n t (set_status status.Active e v) = entry n t v e _ (all e) all in entry n t (set_status status.Active e v) e _ (one e) one
word_within plan n t e word.ForcedSuspended v all =
    let one : AreWithin n t (set_status status.Suspended e v) = entry n t v e _ (all e) all in
    let two : AreWithin n t (set_error (pos 0) e (set_status status.Suspended e v)) = entry n t (set_status status.Suspended e v) e _ (one e) one in
    λ d. subst (IsWithin n t) (sym (freed_kept span_of (λ _ _. refl) plan e d (disarm e (set_error (pos 0) e (set_status status.Suspended e v))))) (two d)

end_within : (n t : ℕ) (e : DevId) (k : Cb) (c : ℤ) (v : Views) → AreWithin n t v → AreWithin n t (by_end e k c v)
end_within n t e cb.Idle c v all = entry n t v e _ (all e) all
end_within n t e cb.Suspend c v all =
    let one : AreWithin n t (set_status status.Active e v) = entry n t v e _ (all e) all in
    either_within n t (int_eq c (pos 0)) _ _ all (either_within n t (is_try_again c) _ _ one (entry n t (set_status status.Active e v) e _ (one e) one))
end_within n t e cb.Resume c v all = either_within n t (int_eq c (pos 0)) _ _ all (entry n t v e _ (all e) all)

event_within : (plan : Plan) (n t : ℕ) (e : Event) (v : Views) → AreWithin n t v → AreWithin n t (by_event plan t e v)
unfolding by_event
event_within plan n t (event.Get x w) v all = got_within plan n t x w _ (entry n t v x _ (all x) all)
event_within plan n t (event.Put x w) v all = gave_within plan n t x w _ (entry n t v x _ (all x) all)
event_within plan n t (event.State x w) v all = word_within plan n t x w v all
event_within plan n t (event.Begin x cb.Idle) v all = entry n t v x _ (all x) all
event_within plan n t (event.Begin x cb.Suspend) v all = entry n t v x _ (all x) all
event_within plan n t (event.Begin x cb.Resume) v all = entry n t v x _ (all x) all
event_within plan n t (event.End x k c) v all = end_within n t x k c v all
event_within plan n t (event.Domain x is_up m) v all = λ d. subst (IsWithin n t) (sym (domain_kept span_of plan x d is_up v)) (all d)
event_within plan n t (event.Work x act) v all = λ d. subst (IsWithin n t) (sym (work_kept span_of x d act v)) (all d)
event_within plan n t (event.Timer x act) v all = λ d. subst (IsWithin n t) (sym (timer_kept span_of x d act v)) (all d)
event_within plan n t _ v all = all

-- changes
more : (n t : ℕ) (v : Views) → AreWithin n t v → AreWithin (suc n) t v
more n t v all d = (omega (arith, (all d).0), (all d).1)

marks_within : (plan : Plan) (n t : ℕ) (e : DevId) (v : Views) → AreWithin n t v → AreWithin n t (callback_marks plan e t v)
unfolding callback_marks
marks_within plan n t e v all = either_within n t (marks_busy plan e) _ _ (entry n t v e _ ((all e).0, omega arith) all) all

ended_within : (plan : Plan) (n t : ℕ) (e : DevId) (c : ℤ) (v : Views) → AreWithin n t v → AreWithin n t (suspend_ended plan e c t v)
unfolding suspend_ended
ended_within plan n t e c v all =
    let marked = marks_within plan n t e v all in either_within n t (int_eq c (pos 0)) _ _ marked (either_within n t (is_try_again c) _ _ marked marked)

enabled_within : (n t : ℕ) (e : DevId) (v : Views) → AreWithin n t v → AreWithin n t (enables e v)
unfolding enables
enabled_within n t e v all =
    let none : AreWithin n t (set_depth 0 e v) = entry n t v e _ (omega arith, (all e).1) all in
    either_within n t (nat_eq (device v e).depth 1) _ _ (entry n t (set_depth 0 e v) e _ (none e) none) (entry n t v e _ (omega (arith, (all e).0), (all e).1) all)

disabled_within : (n t : ℕ) (e : DevId) (v : Views) → AreWithin n t v → AreWithin (suc n) t (disables e v)
disabled_within n t e v all = entry (suc n) t v e _ (omega (arith, (all e).0), (all e).1) (more n t v all)

change_within : (plan : Plan) (n t : ℕ) (c : Change) (v : Views) → AreWithin n t v → AreWithin (suc n) t (change_views plan t c v)
unfolding rcancel set_present
change_within plan n t (change.ResumeCancel e) v all = either_within (suc n) t (has_auto_timer v e) _ _ (more n t v all) (more n t v all)
change_within plan n t (change.CallbackMarks e) v all = marks_within plan (suc n) t e v (more n t v all)
change_within plan n t (change.SuspendEnded e c) v all = ended_within plan (suc n) t e c v (more n t v all)
change_within plan n t (change.MarkBusy e) v all = entry (suc n) t v e _ ((more n t v all e).0, omega arith) (more n t v all)
change_within plan n t (change.Enable e) v all = enabled_within (suc n) t e v (more n t v all)
change_within plan n t (change.Disable e) v all = disabled_within n t e v all
change_within plan n t (change.DisableBusy e) v all = disabled_within n t e v all
change_within plan n t (change.DisableAtOnce e) v all =
    let one = disabled_within n t e v all in entry (suc n) t (disables e v) e _ (one e) one
change_within plan n t (change.KeepStatus e) v all = entry (suc n) t v e _ (more n t v all e) (more n t v all)
change_within plan n t (change.Set e use_auto delay) v all = entry (suc n) t v e _ (more n t v all e) (more n t v all)
change_within plan n t (change.Ignore e ignores) v all = entry (suc n) t v e _ (more n t v all e) (more n t v all)
change_within plan n t _ v all = more n t v all

later : (n t u : ℕ) (v : Views) → t ≤ u → AreWithin n t v → AreWithin n u v
later n t u v le all d = ((all d).0, omega (arith, (all d).1))

-- before any line
start_span : (l : List DeviceRow) (i : ℕ)
    → span_of (slice_index_or (map (λ row. record fresh_device { ignores = row.ignore_children }) l) i fresh_device) ≡ record { depth = 1; last_busy = 0 }
start_span [] i = refl
start_span (x ∷ l) zero = refl
start_span (x ∷ l) (suc i) = start_span l i

start_within : (plan : Plan) → AreWithin 1 0 (start_views plan)
start_within plan d = subst (IsWithin 1 0) (sym (start_span plan.devices d.0)) (omega arith, omega arith)

pub within_lines : (plan : Plan) (h : List Line) → IsLawful plan h → AreWithin (suc (length h)) (last_time h) (world plan h).views
within_lines plan [] lawful = start_within plan
within_lines plan (line ∷ h) lawful =
    let w = world plan h in
    let p = permitted plan h line lawful.0 (lawful_holds plan h lawful.2) in
    let before = later (suc (length h)) (last_time h) line.time w.views lawful.0.in_time (within_lines plan h lawful.2) in
    let after = event_within plan (suc (suc (length h))) line.time line.event (change_views plan line.time p.change w.views) (change_within plan (suc (length h)) line.time p.change w.views before) in
    subst (AreWithin (suc (suc (length h))) line.time) (sym (views_next plan w line p)) after
