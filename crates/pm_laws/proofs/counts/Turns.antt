-- What a line's event makes of the entries, of the statuses and of the counts.
use Rattle.std.proofs.Common.{ℕ, ◌≡◌, ◌+◌, ◌-◌, ◌<◌, Bool, true, false, List, [], ◌∷◌, None, ℤ, pos, length, map, slice_set, slice_index_or, fold, if◌then◌else◌, ap, refl, sym, ◌∙◌, arith, inl, inr, subst}
use Rattle.std.specs.List.{zip, enumerate_from}
use Rattle.std.specs.Option.{unwrap_or}
use Rattle.std.specs.Ordering.{int_eq}
use Rattle.std.proofs.Math.Seq.{map-set_same}
use Rattle.std.proofs.Math.ListN.{get_or-map}
use Rattle.std.proofs.lemmas.Bool.Decides.{eqb_tells}
use Rattle.std.proofs.lemmas.Grind.{get_or-set_at}
use Rattle.std.proofs.lemmas.List.{length-set, length-map, get_or-set_other}
use Rattle.std.proofs.lemmas.List.FromFn.{length-enumerate_from}
use Rattle.std.proofs.lemmas.Slice.Zip.{length-zip}
use Rattle.pm_base.specs.declared.Cb.TheVariants as cb
use Rattle.pm_base.specs.declared.DevId.{DevId}
use Rattle.pm_base.specs.declared.Req.TheVariants.{Nothing}
use Rattle.pm_base.specs.declared.Status.TheVariants as status
use Rattle.pm_base.specs.declared.Why.{Why}
use Rattle.pm_base.specs.declared.Why.TheVariants as why
use Rattle.pm_model.specs.declared.event.Event.{Event}
use Rattle.pm_model.specs.declared.event.Event.TheVariants as event
use Rattle.pm_model.specs.declared.event.TimerAct.{TimerAct}
use Rattle.pm_model.specs.declared.event.TimerAct.TheVariants.{Arm, Fire}
use Rattle.pm_model.specs.declared.event.Word.{Word}
use Rattle.pm_model.specs.declared.event.Word.TheVariants as word
use Rattle.pm_model.specs.declared.event.WorkAct.{WorkAct}
use Rattle.pm_model.specs.declared.event.WorkAct.TheVariants.{Queue, Defer, Run}
use Rattle.pm_model.specs.declared.plan.Plan.{Plan}
use Rattle.pm_model.specs.declared.views.Device.{Device}
use Rattle.pm_model.specs.Changes.{set_request, set_held, set_present, at_pair}
use Rattle.pm_model.specs.Counted.{is_same, only_if, says_status, word_status}
use Rattle.pm_model.specs.Derived.{up, down}
use Rattle.pm_model.specs.Events.{by_event, by_word, by_end, by_work, by_timer, got, gave, set_status, set_error, frees_links, held_from, is_try_again, suspend_failed, switches}
use Rattle.pm_model.specs.Views.{Views, fresh_device, device, with_device}
use Rattle.pm_laws.specs.counts.Sizes.{HasEntries}
use Rattle.pm_laws.proofs.counts.Seen.{seen, core, core_seen, status_of, device_core, pending_calm, timer_calm, either_core, last_busy_calm, status_core, status_seen, entries_core, entries_seen}

-- events that change nothing that the laws see
abbrev pub IsQuiet : Event → Type 0
IsQuiet (event.Get d w) = ⊥
IsQuiet (event.Put d w) = ⊥
IsQuiet (event.State d w) = ⊥
IsQuiet (event.Begin d cb.Suspend) = ⊥
IsQuiet (event.End d cb.Suspend c) = ⊥
IsQuiet _ = Unit {0}

length-switched : (b : Bool) (domains : List ℕ) (on : List Bool) → length (fold (λ on o. slice_set on o b) on domains) ≡ length on
length-switched b [] on = refl
length-switched b (o ∷ domains) on = length-switched b domains (slice_set on o b) ∙ length-set on o b

switches_calm : (b : Bool) (domains : List ℕ) (v : Views) → core (switches b domains v) ≡ core v
unfolding core
switches_calm b domains v = rw (length-switched b domains v.on) refl

work_calm : (d : DevId) (act : WorkAct) (v : Views) → core (by_work d act v) ≡ core v
work_calm d (Queue r) v = core_seen v _ (pending_calm (set_request r d v) d _ ∙ pending_calm v d _)
work_calm d Defer v = core_seen v _ (pending_calm v d _)
work_calm d (Run r) v = core_seen v _ (pending_calm (set_request Nothing d v) d _ ∙ pending_calm v d _)

timer_act_calm : (d : DevId) (act : TimerAct) (v : Views) → core (by_timer d act v) ≡ core v
timer_act_calm d (Arm at auto_on) v = core_seen v _ (timer_calm v d _)
timer_act_calm d (Fire auto_on) v = core_seen v _ (timer_calm v d _)

error_calm : (c : ℤ) (d : DevId) (v : Views) → core (set_error c d v) ≡ core v
error_calm c d v = device_core v d _ refl refl

pub quiet_event : (plan : Plan) (t : ℕ) (e : Event) (v : Views) → IsQuiet e → core (by_event plan t e v) ≡ core v
unfolding by_event
quiet_event plan t (event.Get d w) v q = elim q [ ]
quiet_event plan t (event.Put d w) v q = elim q [ ]
quiet_event plan t (event.State d w) v q = elim q [ ]
quiet_event plan t (event.Begin d cb.Idle) v q = device_core v d _ refl refl
quiet_event plan t (event.Begin d cb.Suspend) v q = elim q [ ]
quiet_event plan t (event.Begin d cb.Resume) v q = device_core v d _ refl refl
quiet_event plan t (event.End d cb.Idle c) v q = device_core v d _ refl refl
quiet_event plan t (event.End d cb.Suspend c) v q = elim q [ ]
quiet_event plan t (event.End d cb.Resume c) v q = either_core (int_eq c (pos 0)) v v (set_error c d v) refl (error_calm c d v)
quiet_event plan t (event.Domain d is_up n) v q =
    either_core is_up v _ _ (switches_calm true (up plan v d) v) (switches_calm false (down plan v d) v)
quiet_event plan t (event.Work d act) v q = work_calm d act v
quiet_event plan t (event.Timer d act) v q = timer_act_calm d act v
quiet_event plan t _ v q = refl

-- one entry changes, and all entries are there
pub entry_is : (v : Views) (e d : DevId) (x : Device) → d.0 < length v.devices
    → device (with_device v e x) d ≡ (if is_same d e then x else device v d)
entry_is v e d x within =
    elim (eqb_tells e.0 d.0) [
      | inl q ↦ rw q.0 (get_or-set_at v.devices e.0 d.0 x fresh_device (sym q.1) (subst (λ n. n < length v.devices) (sym q.1) within))
      | inr q ↦ rw q.0 (get_or-set_other v.devices e.0 d.0 x fresh_device (λ same. q.1 (sym same)))
    ]

pub within_set : (v : Views) (e d : DevId) (x : Device) → d.0 < length v.devices → d.0 < length (with_device v e x).devices
within_set v e d x within = rw (length-set v.devices e.0 x) within

-- a field that keeps its value keeps it everywhere
pub entry_kept : {A : Type 0} (f : Device → A) (v : Views) (e d : DevId) (x : Device) → f x ≡ f (device v e)
    → f (device (with_device v e x) d) ≡ f (device v d)
entry_kept f v e d x same =
    sym (get_or-map f (slice_set v.devices e.0 x) d.0 fresh_device)
    ∙ ap (λ l. slice_index_or l d.0 (f fresh_device)) (map-set_same f v.devices e.0 x fresh_device same) ∙ get_or-map f v.devices d.0 fresh_device

pub field_turned : {A : Type 0} (f : Device → A) (v : Views) (e d : DevId) (x : Device) → d.0 < length v.devices
    → f (device (with_device v e x) d) ≡ unwrap_or (only_if (is_same d e) (f x)) (f (device v d))
field_turned {A} f v e d x within = ap f (entry_is v e d x within) ∙ chosen (is_same d e) x (device v d)
  where
    chosen : (b : Bool) (x y : Device) → f (if b then x else y) ≡ unwrap_or (only_if b (f x)) (f y)
    chosen true x y = refl
    chosen false x y = refl

status_turned : (v : Views) (e d : DevId) (x : Device) → d.0 < length v.devices
    → status_of (device (with_device v e x) d) ≡ unwrap_or (only_if (is_same d e) (status_of x)) (status_of (device v d))
status_turned v e d x within = field_turned status_of v e d x within

-- where links are freed only usages change
entries_freed_kept : {A : Type 0} (f : Device → A) (free : ℕ → ℕ) → ((x : Device) (n : ℕ) → f (record x { usage = n }) ≡ f x)
    → (i : ℕ) (devices : List Device) → map f (map (λ p. record p.1 { usage = p.1.usage - free p.0 }) (enumerate_from i devices)) ≡ map f devices
entries_freed_kept f free same i [] = refl
entries_freed_kept f free same i (x ∷ devices) = rw (same x (x.usage - free i), entries_freed_kept f free same (i + 1) devices) refl

pub freed_kept : {A : Type 0} (f : Device → A) → ((x : Device) (n : ℕ) → f (record x { usage = n }) ≡ f x) → (plan : Plan) (e d : DevId) (v : Views)
    → f (device (frees_links plan e v) d) ≡ f (device v d)
unfolding frees_links
freed_kept f same plan e d v =
    sym (get_or-map f _ d.0 fresh_device) ∙ ap (λ l. slice_index_or l d.0 (f fresh_device)) (entries_freed_kept f (held_from plan v.held e) same 0 v.devices)
    ∙ get_or-map f v.devices d.0 fresh_device

freed_status : (plan : Plan) (e d : DevId) (v : Views) → status_of (device (frees_links plan e v) d) ≡ status_of (device v d)
freed_status plan e d v = freed_kept status_of (λ _ _. refl) plan e d v

word_turned : (plan : Plan) (t : ℕ) (e d : DevId) (w : Word) (v : Views) → d.0 < length v.devices
    → status_of (device (by_word plan t e w v) d) ≡ unwrap_or (only_if (is_same d e) (word_status w)) (status_of (device v d))
word_turned plan t e d word.Active v within = status_seen (set_status status.Active e v) _ d (last_busy_calm t e _) ∙ status_turned v e d _ within
word_turned plan t e d word.Resuming v within = status_turned v e d _ within
word_turned plan t e d word.Suspended v within = status_turned v e d _ within
word_turned plan t e d word.Deferred v within = status_turned v e d _ within
word_turned plan t e d word.ForcedActive v within = status_core (set_status status.Active e v) _ d (error_calm (pos 0) e _) ∙ status_turned v e d _ within
word_turned plan t e d word.ForcedSuspended v within =
    freed_status plan e d _ ∙ status_core (set_status status.Suspended e v) (set_error (pos 0) e (set_status status.Suspended e v)) d (error_calm (pos 0) e _)
    ∙ status_turned v e d _ within

failed_turned : (e d : DevId) (c : ℤ) (v : Views) → d.0 < length v.devices
    → status_of (device (suspend_failed e c v) d) ≡ unwrap_or (only_if (is_same d e) status.Active) (status_of (device v d))
failed_turned e d c v within =
    status_core (set_status status.Active e v) _ d (either_core (is_try_again c) (set_status status.Active e v) _ _ refl (error_calm c e _)) ∙ status_turned v e d _ within

end_turned : (e d : DevId) (c : ℤ) (v : Views) → d.0 < length v.devices
    → status_of (device (by_end e cb.Suspend c v) d) ≡ unwrap_or (says_status d (event.End e cb.Suspend c)) (status_of (device v d))
end_turned e d c v within = go (int_eq c (pos 0))
  where
    go : (b : Bool)
        → status_of (device (if b then v else suspend_failed e c v) d) ≡ unwrap_or (if b then None else only_if (is_same d e) status.Active) (status_of (device v d))
    go true = refl
    go false = failed_turned e d c v within

got_status : (plan : Plan) (e d : DevId) (w : Why) (v : Views) → status_of (device (got plan e w v) d) ≡ status_of (device v d)
unfolding set_held
got_status plan e d why.Caller v = entry_kept status_of v e d _ refl
got_status plan e d why.Forbid v = entry_kept status_of v e d _ refl
got_status plan e d (why.Link c) v = refl
got_status plan e d _ v = refl

gave_status : (plan : Plan) (e d : DevId) (w : Why) (v : Views) → status_of (device (gave plan e w v) d) ≡ status_of (device v d)
unfolding set_held
gave_status plan e d why.Caller v = entry_kept status_of v e d _ refl
gave_status plan e d why.Forbid v = entry_kept status_of v e d _ refl
gave_status plan e d (why.Link c) v = refl
gave_status plan e d _ v = refl

-- the status after an event is what the event says of it, or what it was
pub status_after : (plan : Plan) (t : ℕ) (e : Event) (v : Views) (d : DevId) → d.0 < length v.devices
    → status_of (device (by_event plan t e v) d) ≡ unwrap_or (says_status d e) (status_of (device v d))
unfolding by_event
status_after plan t (event.Get x w) v d within = got_status plan x d w _ ∙ entry_kept status_of v x d _ refl
status_after plan t (event.Put x w) v d within = gave_status plan x d w _ ∙ entry_kept status_of v x d _ refl
status_after plan t (event.State x w) v d within = word_turned plan t x d w v within
status_after plan t (event.Begin x cb.Idle) v d within = entry_kept status_of v x d _ refl
status_after plan t (event.Begin x cb.Suspend) v d within = status_turned v x d _ within
status_after plan t (event.Begin x cb.Resume) v d within = entry_kept status_of v x d _ refl
status_after plan t (event.End x cb.Idle c) v d within = entry_kept status_of v x d _ refl
status_after plan t (event.End x cb.Suspend c) v d within = end_turned x d c v within
status_after plan t (event.End x cb.Resume c) v d within = status_core v _ d (quiet_event plan t (event.End x cb.Resume c) v tt)
status_after plan t (event.Domain x is_up n) v d within = status_core v _ d (quiet_event plan t (event.Domain x is_up n) v tt)
status_after plan t (event.Work x act) v d within = status_core v _ d (quiet_event plan t (event.Work x act) v tt)
status_after plan t (event.Timer x act) v d within = status_core v _ d (quiet_event plan t (event.Timer x act) v tt)
status_after plan t _ v d within = refl

-- no event changes how many entries there are
entries_device : (plan : Plan) (v : Views) (d : DevId) (x : Device) → HasEntries plan v → HasEntries plan (with_device v d x)
entries_device plan v d x h = record { devices = length-set v.devices d.0 x ∙ h.devices; pending = h.pending; timers = h.timers; on = h.on; held = h.held; present = h.present }

length-at_pair : (plan : Plan) (c s : DevId) (b : Bool) (old : List Bool) → length old ≡ length plan.links
    → length (at_pair plan c s b old) ≡ length plan.links
length-at_pair plan c s b old h = length-map (zip plan.links old) _ ∙ length-zip plan.links old ∙ omega arith

pub entries_held : (plan : Plan) (c s : DevId) (b : Bool) (v : Views) → HasEntries plan v → HasEntries plan (set_held plan c s b v)
unfolding set_held
entries_held plan c s b v h = record { devices = h.devices; pending = h.pending; timers = h.timers; on = h.on; held = length-at_pair plan c s b v.held h.held; present = h.present }

pub present_calm : (plan : Plan) (c s : DevId) (b : Bool) (v : Views) → HasEntries plan v → seen (set_present plan c s b v) ≡ seen v
unfolding set_present seen core
present_calm plan c s b v h = rw (length-at_pair plan c s b v.present h.present ∙ sym h.present) refl

length_freed : (plan : Plan) (d : DevId) (v : Views) → HasEntries plan v → HasEntries plan (frees_links plan d v)
unfolding frees_links
length_freed plan d v h = record {
  devices = length-map (enumerate_from 0 v.devices) _ ∙ length-enumerate_from 0 v.devices ∙ h.devices;
  pending = h.pending;
  timers = h.timers;
  on = h.on;
  present = h.present;
  held = length-map (zip plan.links v.held) _ ∙ length-zip plan.links v.held ∙ omega (arith, h.held);
}

entries_got : (plan : Plan) (d : DevId) (w : Why) (v : Views) → HasEntries plan v → HasEntries plan (got plan d w v)
entries_got plan d why.Caller v h = entries_device plan v d _ h
entries_got plan d why.Forbid v h = entries_device plan v d _ h
entries_got plan d (why.Link c) v h = entries_held plan c d true v h
entries_got plan d _ v h = h

entries_gave : (plan : Plan) (d : DevId) (w : Why) (v : Views) → HasEntries plan v → HasEntries plan (gave plan d w v)
entries_gave plan d why.Caller v h = entries_device plan v d _ h
entries_gave plan d why.Forbid v h = entries_device plan v d _ h
entries_gave plan d (why.Link c) v h = entries_held plan c d false v h
entries_gave plan d _ v h = h

entries_word : (plan : Plan) (t : ℕ) (d : DevId) (w : Word) (v : Views) → HasEntries plan v → HasEntries plan (by_word plan t d w v)
entries_word plan t d word.Active v h = entries_device plan _ d _ (entries_device plan v d _ h)
entries_word plan t d word.Resuming v h = entries_device plan v d _ h
entries_word plan t d word.Suspended v h = entries_seen plan (set_status status.Suspended d v) _ (timer_calm _ d None) (entries_device plan v d _ h)
entries_word plan t d word.Deferred v h =
    entries_seen plan (set_status status.Suspended d v) _ (pending_calm _ d _ ∙ timer_calm _ d None) (entries_device plan v d _ h)
entries_word plan t d word.ForcedActive v h = entries_device plan _ d _ (entries_device plan v d _ h)
entries_word plan t d word.ForcedSuspended v h =
    length_freed plan d _ (entries_seen plan _ _ (timer_calm _ d None) (entries_device plan _ d _ (entries_device plan v d _ h)))

pub entries_after : (plan : Plan) (t : ℕ) (e : Event) (v : Views) → HasEntries plan v → HasEntries plan (by_event plan t e v)
unfolding by_event
entries_after plan t (event.Get d w) v h = entries_got plan d w _ (entries_device plan v d _ h)
entries_after plan t (event.Put d w) v h = entries_gave plan d w _ (entries_device plan v d _ h)
entries_after plan t (event.State d w) v h = entries_word plan t d w v h
entries_after plan t (event.Begin d cb.Suspend) v h = entries_device plan v d _ h
entries_after plan t (event.End d cb.Suspend c) v h = go (int_eq c (pos 0)) (is_try_again c)
  where
    go : (b again : Bool)
        → HasEntries plan (if b then v else (if again then set_status status.Active d v else set_error c d (set_status status.Active d v)))
    go true again = h
    go false true = entries_device plan v d _ h
    go false false = entries_device plan _ d _ (entries_device plan v d _ h)
entries_after plan t (event.Begin d cb.Idle) v h = entries_device plan v d _ h
entries_after plan t (event.Begin d cb.Resume) v h = entries_device plan v d _ h
entries_after plan t (event.End d cb.Idle c) v h = entries_device plan v d _ h
entries_after plan t (event.End d cb.Resume c) v h = entries_core plan v _ (quiet_event plan t (event.End d cb.Resume c) v tt) h
entries_after plan t (event.Domain d is_up n) v h = entries_core plan v _ (quiet_event plan t (event.Domain d is_up n) v tt) h
entries_after plan t (event.Work d act) v h = entries_core plan v _ (quiet_event plan t (event.Work d act) v tt) h
entries_after plan t (event.Timer d act) v h = entries_core plan v _ (quiet_event plan t (event.Timer d act) v tt) h
entries_after plan t _ v h = h
