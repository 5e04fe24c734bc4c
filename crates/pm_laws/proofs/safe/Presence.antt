-- Which links are present changes only where a link is added or dropped.
use Rattle.std.proofs.Common.{ℕ, ◌≡◌, ◌<◌, Bool, true, false, ◌&&◌, List, Some, ℤ, pos, length, nat_eq, slice_get, slice_index_or, if◌then◌else◌, ap, refl, ◌∙◌}
use Rattle.std.specs.Option.{unwrap_or}
use Rattle.std.specs.Ordering.{int_eq}
use Rattle.pm_base.specs.declared.Cb.TheVariants as cb
use Rattle.pm_base.specs.declared.DevId.{DevId}
use Rattle.pm_base.specs.declared.Status.TheVariants as status
use Rattle.pm_base.specs.declared.Why.{Why}
use Rattle.pm_base.specs.declared.Why.TheVariants as why
use Rattle.pm_model.specs.declared.event.Event.{Event}
use Rattle.pm_model.specs.declared.event.Event.TheVariants as event
use Rattle.pm_model.specs.declared.event.TimerAct.{TimerAct}
use Rattle.pm_model.specs.declared.event.TimerAct.TheVariants.{Arm, Fire}
use Rattle.pm_model.specs.declared.event.Word.{Word}
use Rattle.pm_model.specs.declared.event.Word.TheVariants as word
use Rattle.pm_model.specs.declared.event.WorkAct.{WorkAct}
use Rattle.pm_model.specs.declared.event.WorkAct.TheVariants.{Queue, Defer, Run}
use Rattle.pm_model.specs.declared.plan.Plan.{Plan}
use Rattle.pm_model.specs.declared.rows.LinkRow.{LinkRow}
use Rattle.pm_model.specs.declared.stage.Change.{Change}
use Rattle.pm_model.specs.declared.stage.Change.TheVariants as change
use Rattle.pm_model.specs.ChangeViews.{change_views, suspend_ended}
use Rattle.pm_model.specs.Changes.{cancel, rcancel, has_auto_timer, callback_marks, set_last_busy, set_deferred, set_held, set_present, enables, set_last, set_depth}
use Rattle.pm_model.specs.Counted.{is_same, only_if}
use Rattle.pm_model.specs.Derived.{up, down}
use Rattle.pm_model.specs.Events.{by_event, by_word, by_end, by_work, by_timer, got, gave, set_status, set_error, frees_links, is_try_again, switches}
use Rattle.pm_model.specs.PlanRows.{marks_busy, is_of_pair}
use Rattle.pm_model.specs.Views.{Views, device, is_present}
use Rattle.pm_laws.proofs.counts.Switches.{mapped, pair_turned}
use Rattle.pm_laws.specs.safe.Kinds.{Kind, adds_link, drops_link, drops_held, shows, is_of_link, ChangeIs}

either_present : (b : Bool) (v x y : Views) → x.present ≡ v.present → y.present ≡ v.present → (if b then x else y).present ≡ v.present
either_present true v x y p q = p
either_present false v x y p q = q

rcancel_present : (d : DevId) (v : Views) → (rcancel d v).present ≡ v.present
unfolding rcancel
rcancel_present d v = either_present (has_auto_timer v d) v _ _ refl refl

marks_present : (plan : Plan) (d : DevId) (t : ℕ) (v : Views) → (callback_marks plan d t v).present ≡ v.present
unfolding callback_marks
marks_present plan d t v = either_present (marks_busy plan d) v (set_last_busy t d v) v refl refl

ended_present : (plan : Plan) (d : DevId) (c : ℤ) (t : ℕ) (v : Views) → (suspend_ended plan d c t v).present ≡ v.present
unfolding suspend_ended
ended_present plan d c t v =
    let marked : Views = callback_marks plan d t v in
    let same = marks_present plan d t v in
    either_present (int_eq c (pos 0)) v marked (if is_try_again c then set_deferred false d marked else cancel d (set_deferred false d marked)) same
    (either_present (is_try_again c) v (set_deferred false d marked) (cancel d (set_deferred false d marked)) same same)

enables_present : (d : DevId) (v : Views) → (enables d v).present ≡ v.present
unfolding enables
enables_present d v = either_present (nat_eq (device v d).depth 1) v (set_last false d (set_depth 0 d v)) (set_depth _ d v) refl refl

-- the changes that rows name
other_present : (plan : Plan) (t : ℕ) (c : Change) (v : Views) → is_of_link c ≡ false → (change_views plan t c v).present ≡ v.present
other_present plan t (change.ResumeCancel d) v is = rcancel_present d v
other_present plan t (change.CallbackMarks d) v is = marks_present plan d t v
other_present plan t (change.SuspendEnded d c) v is = ended_present plan d c t v
other_present plan t (change.Enable d) v is = enables_present d v
other_present plan t (change.Link c s present) v is = cc
other_present plan t _ v is = refl

link_present : (plan : Plan) (t : ℕ) (c s : DevId) (b : Bool) (v : Views) (l : ℕ) (row : LinkRow) → slice_get plan.links l ≡ Some row → l < length v.present
    → is_present (change_views plan t (change.Link c s b) v) l ≡ unwrap_or (only_if (is_same row.supplier s && is_same row.consumer c) b) (is_present v l)
unfolding set_present
link_present plan t c s b v l row is within =
    mapped (is_of_pair c s) b plan.links v.present l row is within ∙ ap (λ m. unwrap_or (only_if m b) (is_present v l)) (pair_turned c s row)

pub change_present : (plan : Plan) (t : ℕ) (k : Kind) (c : Change) (v : Views) (l : ℕ) (row : LinkRow) → ChangeIs k c → slice_get plan.links l ≡ Some row
    → l < length v.present → is_present (change_views plan t c v) l ≡ unwrap_or (shows k row.consumer row.supplier) (is_present v l)
change_present plan t (adds_link d s) c v l row is at within = rw is (link_present plan t d s true v l row at within)
change_present plan t (drops_link d s) c v l row is at within = rw is (link_present plan t d s false v l row at within)
change_present plan t (drops_held d s) c v l row is at within = rw is (link_present plan t d s false v l row at within)
change_present plan t _ c v l row is at within = ap (λ (x : List Bool). slice_index_or x l false) (other_present plan t c v is)

-- a line's event of itself
got_present : (plan : Plan) (e : DevId) (w : Why) (v : Views) → (got plan e w v).present ≡ v.present
unfolding set_held
got_present plan e why.Caller v = refl
got_present plan e why.Forbid v = refl
got_present plan e (why.Link c) v = refl
got_present plan e _ v = refl

gave_present : (plan : Plan) (e : DevId) (w : Why) (v : Views) → (gave plan e w v).present ≡ v.present
unfolding set_held
gave_present plan e why.Caller v = refl
gave_present plan e why.Forbid v = refl
gave_present plan e (why.Link c) v = refl
gave_present plan e _ v = refl

word_present : (plan : Plan) (t : ℕ) (e : DevId) (w : Word) (v : Views) → (by_word plan t e w v).present ≡ v.present
unfolding frees_links
word_present plan t e word.Active v = refl
word_present plan t e word.Resuming v = refl
word_present plan t e word.Suspended v = refl
word_present plan t e word.Deferred v = refl
word_present plan t e word.ForcedActive v = refl
word_present plan t e word.ForcedSuspended v = refl

suspended_present : (e : DevId) (c : ℤ) (v : Views) → (by_end e cb.Suspend c v).present ≡ v.present
suspended_present e c v =
    either_present (int_eq c (pos 0)) v v _ refl
    (either_present (is_try_again c) v (set_status status.Active e v) (set_error c e (set_status status.Active e v)) refl refl)

resumed_present : (e : DevId) (c : ℤ) (v : Views) → (by_end e cb.Resume c v).present ≡ v.present
resumed_present e c v = either_present (int_eq c (pos 0)) v v (set_error c e v) refl refl

work_present : (d : DevId) (act : WorkAct) (v : Views) → (by_work d act v).present ≡ v.present
work_present d (Queue r) v = refl
work_present d Defer v = refl
work_present d (Run r) v = refl

timer_present : (d : DevId) (act : TimerAct) (v : Views) → (by_timer d act v).present ≡ v.present
timer_present d (Arm at autosuspends) v = refl
timer_present d (Fire autosuspends) v = refl

domain_present : (plan : Plan) (x : DevId) (is_up : Bool) (v : Views)
    → (if is_up then switches true (up plan v x) v else switches false (down plan v x) v).present ≡ v.present
domain_present plan x is_up v = either_present is_up v (switches true (up plan v x) v) (switches false (down plan v x) v) refl refl

pub event_present : (plan : Plan) (t : ℕ) (e : Event) (v : Views) → (by_event plan t e v).present ≡ v.present
unfolding by_event
event_present plan t (event.Get x w) v = got_present plan x w _
event_present plan t (event.Put x w) v = gave_present plan x w _
event_present plan t (event.State x w) v = word_present plan t x w v
event_present plan t (event.Begin x cb.Idle) v = refl
event_present plan t (event.Begin x cb.Suspend) v = refl
event_present plan t (event.Begin x cb.Resume) v = refl
event_present plan t (event.End x cb.Idle c) v = refl
event_present plan t (event.End x cb.Suspend c) v = suspended_present x c v
event_present plan t (event.End x cb.Resume c) v = resumed_present x c v
event_present plan t (event.Domain x is_up n) v = domain_present plan x is_up v
event_present plan t (event.Work x act) v = work_present x act v
event_present plan t (event.Timer x act) v = timer_present x act v
event_present plan t _ v = refl
