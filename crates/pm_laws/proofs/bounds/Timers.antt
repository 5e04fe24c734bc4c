-- No timer is armed for later than 1,000,000 milliseconds after the last line.
use Rattle.std.proofs.Common.{ℕ, zero, suc, ◌≡◌, ◌+◌, ◌≤◌, Bool, true, false, List, [], ◌∷◌, Option, None, ℤ, pos, map, nat_eq, slice_index_or, slice_set, if◌then◌else◌, refl, sym, subst, arith}
use Rattle.std.specs.Option.{option_map_or}
use Rattle.std.specs.Ordering.{int_eq}
use Rattle.pm_base.specs.declared.Armed.{Armed}
use Rattle.pm_base.specs.declared.Cb.{Cb}
use Rattle.pm_base.specs.declared.Cb.TheVariants as cb
use Rattle.pm_base.specs.declared.DevId.{DevId}
use Rattle.pm_base.specs.declared.Why.{Why}
use Rattle.pm_base.specs.declared.Why.TheVariants as why
use Rattle.pm_model.specs.declared.event.Event.{Event}
use Rattle.pm_model.specs.declared.event.Event.TheVariants as event
use Rattle.pm_model.specs.declared.event.Line.{Line}
use Rattle.pm_model.specs.declared.event.TimerAct.TheVariants.{Arm, Fire}
use Rattle.pm_model.specs.declared.event.Word.{Word}
use Rattle.pm_model.specs.declared.event.Word.TheVariants as word
use Rattle.pm_model.specs.declared.event.WorkAct.{WorkAct}
use Rattle.pm_model.specs.declared.event.WorkAct.TheVariants.{Queue, Defer, Run}
use Rattle.pm_model.specs.declared.plan.Plan.{Plan}
use Rattle.pm_model.specs.declared.stage.Change.{Change}
use Rattle.pm_model.specs.declared.stage.Change.TheVariants as change
use Rattle.pm_model.specs.declared.stage.Stage.{Stage}
use Rattle.pm_model.specs.ChangeViews.{change_views, suspend_ended}
use Rattle.pm_model.specs.Changes.{callback_marks, enables, has_auto_timer, rcancel, set_held, set_present}
use Rattle.pm_model.specs.Derived.{down, up}
use Rattle.pm_model.specs.Events.{by_end, by_event, by_word, by_work, frees_links, gave, got, is_try_again, switches}
use Rattle.pm_model.specs.Lawful.{IsLawful, last_time}
use Rattle.pm_model.specs.PlanRows.{marks_busy}
use Rattle.pm_model.specs.Views.{Views, device, timer, with_timer}
use Rattle.pm_model.specs.World.{world}
use Rattle.pm_laws.proofs.bounds.Said.{said, views_now}
use Rattle.pm_laws.proofs.bounds.Saying.{IsSaid}

abbrev pub deadline_of : Option Armed → ℕ
deadline_of o = option_map_or (λ armed. armed.deadline) o 0

-- every timer is armed for m or earlier
abbrev pub AreSoon : ℕ → Views → Type 0
AreSoon m v = (d : DevId) → deadline_of (timer v d) ≤ m

-- what holds of a new entry and of each old one holds of all
pub set_either : {A : Type 0} (P : A → Type 0) (l : List A) (i j : ℕ) (x z : A) → P x → P (slice_index_or l j z) → P (slice_index_or (slice_set l i x) j z)
set_either P [] i j x z new old = old
set_either P (y ∷ l) zero zero x z new old = new
set_either P (y ∷ l) zero (suc j) x z new old = old
set_either P (y ∷ l) (suc i) zero x z new old = old
set_either P (y ∷ l) (suc i) (suc j) x z new old = set_either P l i j x z new old

armed_entry : (m : ℕ) (v : Views) (e : DevId) (x : Option Armed) → deadline_of x ≤ m → AreSoon m v → AreSoon m (with_timer v e x)
armed_entry m v e x new all d = set_either (λ o. deadline_of o ≤ m) v.timers e.0 d.0 x None new (all d)

none_armed : (m : ℕ) (v : Views) (e : DevId) → AreSoon m v → AreSoon m (with_timer v e None)
none_armed m v e all = armed_entry m v e None (omega arith) all

either_soon : (m : ℕ) (b : Bool) (x y : Views) → AreSoon m x → AreSoon m y → AreSoon m (if b then x else y)
either_soon m true x y p q = p
either_soon m false x y p q = q

-- events
got_soon : (plan : Plan) (m : ℕ) (e : DevId) (w : Why) (v : Views) → AreSoon m v → AreSoon m (got plan e w v)
unfolding set_held
got_soon plan m e why.Caller v all = all
got_soon plan m e why.Forbid v all = all
got_soon plan m e (why.Link c) v all = all
got_soon plan m e _ v all = all

gave_soon : (plan : Plan) (m : ℕ) (e : DevId) (w : Why) (v : Views) → AreSoon m v → AreSoon m (gave plan e w v)
unfolding set_held
gave_soon plan m e why.Caller v all = all
gave_soon plan m e why.Forbid v all = all
gave_soon plan m e (why.Link c) v all = all
gave_soon plan m e _ v all = all

word_soon : (plan : Plan) (m t : ℕ) (e : DevId) (w : Word) (v : Views) → AreSoon m v → AreSoon m (by_word plan t e w v)
unfolding frees_links
word_soon plan m t e word.Active v all = all
word_soon plan m t e word.Resuming v all = all
word_soon plan m t e word.Suspended v all = none_armed m v e all
word_soon plan m t e word.Deferred v all = none_armed m v e all
word_soon plan m t e word.ForcedActive v all = all
word_soon plan m t e word.ForcedSuspended v all = none_armed m v e all

end_soon : (m : ℕ) (e : DevId) (k : Cb) (c : ℤ) (v : Views) → AreSoon m v → AreSoon m (by_end e k c v)
end_soon m e cb.Idle c v all = all
end_soon m e cb.Suspend c v all = either_soon m (int_eq c (pos 0)) _ _ all (either_soon m (is_try_again c) _ _ all all)
end_soon m e cb.Resume c v all = either_soon m (int_eq c (pos 0)) _ _ all all

work_soon : (m : ℕ) (e : DevId) (act : WorkAct) (v : Views) → AreSoon m v → AreSoon m (by_work e act v)
work_soon m e (Queue r) v all = all
work_soon m e Defer v all = all
work_soon m e (Run r) v all = all

event_soon : (plan : Plan) (w : Views) (t : ℕ) (s : Stage) (e : Event) (v : Views) → IsSaid plan w t s e → AreSoon (t + 1000000) v
    → AreSoon (t + 1000000) (by_event plan t e v)
unfolding by_event
event_soon plan w t s (event.Get x reason) v says all = got_soon plan (t + 1000000) x reason _ all
event_soon plan w t s (event.Put x reason) v says all = gave_soon plan (t + 1000000) x reason _ all
event_soon plan w t s (event.State x turned) v says all = word_soon plan (t + 1000000) t x turned v all
event_soon plan w t s (event.Begin x cb.Idle) v says all = all
event_soon plan w t s (event.Begin x cb.Suspend) v says all = all
event_soon plan w t s (event.Begin x cb.Resume) v says all = all
event_soon plan w t s (event.End x k c) v says all = end_soon (t + 1000000) x k c v all
event_soon plan w t s (event.Domain x is_up n) v says all =
    either_soon (t + 1000000) is_up (switches true (up plan v x) v) (switches false (down plan v x) v) all all
event_soon plan w t s (event.Work x act) v says all = work_soon (t + 1000000) x act v all
event_soon plan w t s (event.Timer x (Arm moment autosuspends)) v says all = armed_entry (t + 1000000) v x _ says all
event_soon plan w t s (event.Timer x (Fire autosuspends)) v says all = none_armed (t + 1000000) v x all
event_soon plan w t s _ v says all = all

-- changes
marks_soon : (plan : Plan) (m t : ℕ) (e : DevId) (v : Views) → AreSoon m v → AreSoon m (callback_marks plan e t v)
unfolding callback_marks
marks_soon plan m t e v all = either_soon m (marks_busy plan e) _ _ all all

ended_soon : (plan : Plan) (m t : ℕ) (e : DevId) (c : ℤ) (v : Views) → AreSoon m v → AreSoon m (suspend_ended plan e c t v)
unfolding suspend_ended
ended_soon plan m t e c v all =
    let marked = marks_soon plan m t e v all in
    either_soon m (int_eq c (pos 0)) _ _ marked (either_soon m (is_try_again c) _ _ marked (none_armed m (callback_marks plan e t v) e marked))

enabled_soon : (m : ℕ) (e : DevId) (v : Views) → AreSoon m v → AreSoon m (enables e v)
unfolding enables
enabled_soon m e v all = either_soon m (nat_eq (device v e).depth 1) _ _ all all

change_soon : (plan : Plan) (m t : ℕ) (c : Change) (v : Views) → AreSoon m v → AreSoon m (change_views plan t c v)
unfolding rcancel set_present
change_soon plan m t (change.Disarm e) v all = none_armed m v e all
change_soon plan m t (change.Cancel e) v all = none_armed m v e all
change_soon plan m t (change.CancelAll e) v all = none_armed m v e all
change_soon plan m t (change.ResumeCancel e) v all = either_soon m (has_auto_timer v e) _ _ all (none_armed m v e all)
change_soon plan m t (change.CallbackMarks e) v all = marks_soon plan m t e v all
change_soon plan m t (change.SuspendEnded e c) v all = ended_soon plan m t e c v all
change_soon plan m t (change.Enable e) v all = enabled_soon m e v all
change_soon plan m t (change.DisableBusy e) v all = none_armed m v e all
change_soon plan m t (change.DisableAtOnce e) v all = none_armed m v e all
change_soon plan m t _ v all = all

-- before any line no timer is armed
start_timer : {A : Type 0} (l : List A) (i : ℕ) → (let none : Option Armed = None in slice_index_or (map (λ row. none) l) i none ≡ none)
start_timer [] i = refl
start_timer (x ∷ l) zero = refl
start_timer (x ∷ l) (suc i) = start_timer l i

pub timers_soon : (plan : Plan) (h : List Line) → IsLawful plan h → AreSoon (last_time h + 1000000) (world plan h).views
timers_soon plan [] lawful = λ d. subst (λ o. deadline_of o ≤ 1000000) (sym (start_timer plan.devices d.0)) (omega arith)
timers_soon plan (line ∷ h) lawful =
    let w = world plan h in
    let p = lawful.0 in
    let before : AreSoon (line.time + 1000000) w.views = λ d. omega (arith, timers_soon plan h lawful.2 d, p.in_time) in
    let after = event_soon plan w.views line.time p.stage line.event (change_views plan line.time p.change w.views) (said plan h line lawful.2 p).0 (change_soon plan (line.time + 1000000) line.time p.change w.views before) in
    subst (AreSoon (line.time + 1000000)) (sym (views_now plan h line p)) after
