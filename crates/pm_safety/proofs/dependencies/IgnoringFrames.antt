-- What a line leaves of whether a device ignores its children.
use Rattle.std.proofs.Common.{ℕ, ◌≡◌, ◌∷◌, Bool, true, false, not, Some, ℤ, pos, nat_eq, if◌then◌else◌, ap, refl, sym, ◌∙◌, subst}
use Rattle.std.specs.Ordering.{int_eq}
use Rattle.std.proofs.lemmas.Bool.{eqb-false}
use Rattle.std.proofs.lemmas.List.{get_or-set_other}
use Rattle.pm_base.specs.declared.Cb.{Cb}
use Rattle.pm_base.specs.declared.Cb.TheVariants as cb
use Rattle.pm_base.specs.declared.DevId.{DevId}
use Rattle.pm_base.specs.declared.Status.{Status}
use Rattle.pm_base.specs.declared.Status.TheVariants as status
use Rattle.pm_base.specs.declared.Why.{Why}
use Rattle.pm_base.specs.declared.Why.TheVariants as why
use Rattle.pm_model.specs.declared.event.Event.{Event}
use Rattle.pm_model.specs.declared.event.Event.TheVariants as event
use Rattle.pm_model.specs.declared.event.Line.{Line}
use Rattle.pm_model.specs.declared.event.Word.{Word}
use Rattle.pm_model.specs.declared.event.Word.TheVariants as word
use Rattle.pm_model.specs.declared.plan.Plan.{Plan}
use Rattle.pm_model.specs.declared.stage.Change.{Change}
use Rattle.pm_model.specs.declared.stage.Change.TheVariants as change
use Rattle.pm_model.specs.declared.stage.Then.{Then}
use Rattle.pm_model.specs.declared.views.Device.{Device}
use Rattle.pm_model.specs.ChangeViews.{change_views, suspend_ended}
use Rattle.pm_model.specs.Changes.{callback_marks, disables_busy, enables, has_auto_timer, rcancel, set_depth, set_held, set_present}
use Rattle.pm_model.specs.Counted.{is_same}
use Rattle.pm_model.specs.Events.{by_begin, by_end, by_event, by_word, got, gave, set_status, is_try_again}
use Rattle.pm_model.specs.History.{History}
use Rattle.pm_model.specs.Lawful.{IsLawful}
use Rattle.pm_model.specs.PlanRows.{marks_busy}
use Rattle.pm_model.specs.Row.{writes}
use Rattle.pm_model.specs.Views.{Views, device, fresh_device}
use Rattle.pm_model.specs.World.{after_line, world}
use Rattle.pm_laws.proofs.counts.Asides.{work_kept, timer_kept, domain_kept}
use Rattle.pm_laws.proofs.counts.Runs.{views_after}
use Rattle.pm_laws.proofs.counts.Turns.{entry_kept, freed_kept}
use Rattle.pm_laws.proofs.turns.Frames.{leads_to, row_of}
use Rattle.pm_safety.specs.dependencies.Turning.{IsApart, turned_by}
use Rattle.pm_safety.proofs.dependencies.Ignoring.{Ignores, row_obeys}

abbrev ignores_of : Device → Bool
ignores_of x = x.ignores

-- an event changes nothing of it
got_ignores : (plan : Plan) (e d : DevId) (w : Why) (v : Views) → ignores_of (device (got plan e w v) d) ≡ ignores_of (device v d)
unfolding set_held
got_ignores plan e d why.Caller v = entry_kept ignores_of v e d _ refl
got_ignores plan e d why.Forbid v = entry_kept ignores_of v e d _ refl
got_ignores plan e d (why.Link c) v = refl
got_ignores plan e d _ v = refl

gave_ignores : (plan : Plan) (e d : DevId) (w : Why) (v : Views) → ignores_of (device (gave plan e w v) d) ≡ ignores_of (device v d)
unfolding set_held
gave_ignores plan e d why.Caller v = entry_kept ignores_of v e d _ refl
gave_ignores plan e d why.Forbid v = entry_kept ignores_of v e d _ refl
gave_ignores plan e d (why.Link c) v = refl
gave_ignores plan e d _ v = refl

status_ignores : (s : Status) (e d : DevId) (v : Views) → ignores_of (device (set_status s e v) d) ≡ ignores_of (device v d)
status_ignores s e d v = entry_kept ignores_of v e d _ refl

word_ignores : (plan : Plan) (t : ℕ) (e d : DevId) (w : Word) (v : Views) → ignores_of (device (by_word plan t e w v) d) ≡ ignores_of (device v d)
word_ignores plan t e d word.Active v = entry_kept ignores_of (set_status status.Active e v) e d _ refl ∙ status_ignores status.Active e d v
word_ignores plan t e d word.Resuming v = status_ignores status.Resuming e d v
word_ignores plan t e d word.Suspended v = status_ignores status.Suspended e d v
word_ignores plan t e d word.Deferred v = status_ignores status.Suspended e d v
word_ignores plan t e d word.ForcedActive v = entry_kept ignores_of (set_status status.Active e v) e d _ refl ∙ status_ignores status.Active e d v
word_ignores plan t e d word.ForcedSuspended v =
    freed_kept ignores_of (λ _ _. refl) plan e d _ ∙ entry_kept ignores_of (set_status status.Suspended e v) e d _ refl ∙ status_ignores status.Suspended e d v

either_ignores : (b : Bool) (x y v : Views) (d : DevId) → ignores_of (device x d) ≡ ignores_of (device v d) → ignores_of (device y d) ≡ ignores_of (device v d)
    → ignores_of (device (if b then x else y) d) ≡ ignores_of (device v d)
either_ignores true x y v d p q = p
either_ignores false x y v d p q = q

begin_ignores : (e d : DevId) (k : Cb) (v : Views) → ignores_of (device (by_begin e k v) d) ≡ ignores_of (device v d)
begin_ignores e d cb.Idle v = entry_kept ignores_of v e d _ refl
begin_ignores e d cb.Suspend v = entry_kept ignores_of v e d _ refl
begin_ignores e d cb.Resume v = entry_kept ignores_of v e d _ refl

end_ignores : (e d : DevId) (k : Cb) (c : ℤ) (v : Views) → ignores_of (device (by_end e k c v) d) ≡ ignores_of (device v d)
end_ignores e d cb.Idle c v = entry_kept ignores_of v e d _ refl
end_ignores e d cb.Suspend c v =
    either_ignores (int_eq c (pos 0)) v _ v d refl
    (either_ignores (is_try_again c) _ _ v d (status_ignores status.Active e d v) (entry_kept ignores_of (set_status status.Active e v) e d _ refl ∙ status_ignores status.Active e d v))
end_ignores e d cb.Resume c v = either_ignores (int_eq c (pos 0)) v _ v d refl (entry_kept ignores_of v e d _ refl)

event_ignores : (plan : Plan) (t : ℕ) (e : Event) (v : Views) (d : DevId) → ignores_of (device (by_event plan t e v) d) ≡ ignores_of (device v d)
unfolding by_event
event_ignores plan t (event.Get x w) v d = got_ignores plan x d w _ ∙ entry_kept ignores_of v x d _ refl
event_ignores plan t (event.Put x w) v d = gave_ignores plan x d w _ ∙ entry_kept ignores_of v x d _ refl
event_ignores plan t (event.State x w) v d = word_ignores plan t x d w v
event_ignores plan t (event.Begin x k) v d = begin_ignores x d k v
event_ignores plan t (event.End x k c) v d = end_ignores x d k c v
event_ignores plan t (event.Domain x is_up n) v d = domain_kept ignores_of plan x d is_up v
event_ignores plan t (event.Work x act) v d = work_kept ignores_of x d act v
event_ignores plan t (event.Timer x act) v d = timer_kept ignores_of x d act v
event_ignores plan t _ v d = refl

-- nor does a change, but the one that is of it
enabled_ignores : (e d : DevId) (v : Views) → ignores_of (device (enables e v) d) ≡ ignores_of (device v d)
unfolding enables
enabled_ignores e d v =
    either_ignores (nat_eq (device v e).depth 1) _ _ v d
    (entry_kept ignores_of (set_depth 0 e v) e d _ refl ∙ entry_kept ignores_of v e d _ refl)
    (entry_kept ignores_of v e d _ refl)

marks_ignores : (plan : Plan) (t : ℕ) (e d : DevId) (v : Views) → ignores_of (device (callback_marks plan e t v) d) ≡ ignores_of (device v d)
unfolding callback_marks
marks_ignores plan t e d v = either_ignores (marks_busy plan e) _ v v d (entry_kept ignores_of v e d _ refl) refl

ended_ignores : (plan : Plan) (t : ℕ) (c : ℤ) (e d : DevId) (v : Views) → ignores_of (device (suspend_ended plan e c t v) d) ≡ ignores_of (device v d)
unfolding suspend_ended
ended_ignores plan t c e d v =
    let marked = marks_ignores plan t e d v in either_ignores (int_eq c (pos 0)) _ _ v d marked (either_ignores (is_try_again c) _ _ v d marked marked)

apart : (x d : DevId) (e : Event) → turned_by e ≡ Some d → IsApart x (turned_by e) → is_same x d ≡ false
apart x d e is a = go (is_same x d) (subst (IsApart x) is a)
  where
    go : (b : Bool) → not b ≡ true → b ≡ false
    go true k = cc
    go false k = refl

change_ignores : (plan : Plan) (t : ℕ) (e : Event) (c : Change) (next : Then) (v : Views) (x : DevId) → Ignores e c next → IsApart x (turned_by e)
    → ignores_of (device (change_views plan t c v) x) ≡ ignores_of (device v x)
unfolding rcancel set_present
change_ignores plan t e (change.ResumeCancel d) next v x own a = either_ignores (has_auto_timer v d) _ _ v x refl refl
change_ignores plan t e (change.CallbackMarks d) next v x own a = marks_ignores plan t d x v
change_ignores plan t e (change.SuspendEnded d c) next v x own a = ended_ignores plan t c d x v
change_ignores plan t e (change.MarkBusy d) next v x own a = entry_kept ignores_of v d x _ refl
change_ignores plan t e (change.Enable d) next v x own a = enabled_ignores d x v
change_ignores plan t e (change.Disable d) next v x own a = entry_kept ignores_of v d x _ refl
change_ignores plan t e (change.DisableBusy d) next v x own a = entry_kept ignores_of v d x _ refl
change_ignores plan t e (change.DisableAtOnce d) next v x own a = entry_kept ignores_of (disables_busy d v) d x _ refl ∙ entry_kept ignores_of v d x _ refl
change_ignores plan t e (change.KeepStatus d) next v x own a = entry_kept ignores_of v d x _ refl
change_ignores plan t e (change.Set d use_auto delay) next v x own a = entry_kept ignores_of v d x _ refl
change_ignores plan t e (change.Ignore d ignores) next v x own a =
    let other = apart x d e own a in
    ap ignores_of (get_or-set_other v.devices d.0 x.0 _ fresh_device (λ same. eqb-false d.0 x.0 other (sym same)))
change_ignores plan t e _ next v x own a = refl

pub ignores_frame : (plan : Plan) (h : History) (line : Line) (x : DevId) → IsLawful plan (line ∷ h) → IsApart x (turned_by line.event)
    → (device (world plan (line ∷ h)).views x).ignores ≡ (device (world plan h).views x).ignores
ignores_frame plan h line x lawful a =
    let p = lawful.0 in
    let v : Views = (world plan h).views in
    let own = row_obeys plan v line.time p.stage (writes line.event p.change p.next) (row_of plan h line p) in
    subst (λ r. ignores_of (device (after_line plan (world plan h) line r).views x) ≡ ignores_of (device v x)) (sym (leads_to plan h line p))
    (ap (λ (u : Views). ignores_of (device u x)) (views_after plan (world plan h) line p.change p.next)
    ∙ event_ignores plan line.time line.event (change_views plan line.time p.change v) x
    ∙ change_ignores plan line.time line.event p.change p.next v x own a)
