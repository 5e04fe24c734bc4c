-- Which devices a line observations as busy.
use Rattle.std.proofs.Common.{ℕ, ◌≡◌, ◌≢◌, ◌<◌, ◌≤◌, ◌+◌, ◌-◌, ◌⊎◌, inl, inr, Bool, true, false, not, ◌&&◌, ◌||◌, List, [], ◌∷◌, Option, Some, None, ℤ, pos, length, map, nat_eq, nat_lt, slice_index_or, slice_set, if◌then◌else◌, refl, sym, ap, ◌∙◌, arith}
use Rattle.std.proofs.Math.Seq.{map-set_same}
use Rattle.std.proofs.Math.ListN.{get_or-map}
use Rattle.std.proofs.lemmas.Bool.Decides.{eqb_tells, nat_tests}
use Rattle.std.proofs.lemmas.Grind.{get_or-set_at}
use Rattle.std.proofs.lemmas.List.{get_or-set_other, length-map, length-set, map-set, set-get_or, set_past}
use Rattle.std.proofs.lemmas.Option.{slice_get_past}
use Rattle.std.specs.List.{enumerate_from}
use Rattle.std.specs.Option.{option_map_or}
use Rattle.std.specs.Ordering.{int_eq}
use Rattle.pm_base.specs.declared.Cb.{Cb}
use Rattle.pm_base.specs.declared.Cb.TheVariants as cb
use Rattle.pm_base.specs.declared.DevId.{DevId}
use Rattle.pm_base.specs.declared.Status.TheVariants as status
use Rattle.pm_base.specs.declared.Why.{Why}
use Rattle.pm_base.specs.declared.Why.TheVariants as why
use Rattle.pm_model.specs.declared.event.Event.{Event}
use Rattle.pm_model.specs.declared.event.Event.TheVariants as event
use Rattle.pm_model.specs.declared.event.TimerAct.{TimerAct}
use Rattle.pm_model.specs.declared.event.TimerAct.TheVariants.{Arm, Fire}
use Rattle.pm_model.specs.declared.event.Word.{Word}
use Rattle.pm_model.specs.declared.event.Word.TheVariants as word
use Rattle.pm_model.specs.declared.event.WorkAct.{WorkAct}
use Rattle.pm_model.specs.declared.event.WorkAct.TheVariants.{Queue, Defer, Run}
use Rattle.pm_model.specs.declared.plan.Plan.{Plan}
use Rattle.pm_model.specs.declared.rows.DeviceRow.{DeviceRow}
use Rattle.pm_model.specs.declared.stage.Change.{Change}
use Rattle.pm_model.specs.declared.stage.Change.TheVariants as change
use Rattle.pm_model.specs.declared.views.Device.{Device}
use Rattle.pm_model.specs.ChangeViews.{change_views, suspend_ended}
use Rattle.pm_model.specs.Changes.{callback_marks, disables, disarm, enables, has_auto_timer, rcancel, set_depth, set_held, set_last_busy, set_present}
use Rattle.pm_model.specs.Events.{by_end, by_event, by_timer, by_word, by_work, frees_links, gave, got, held_from, is_try_again, set_error, set_status}
use Rattle.pm_model.specs.PlanRows.{marks_busy}
use Rattle.pm_model.specs.Views.{Views, device, fresh_device, with_device}
use Rattle.pm_explore.specs.successors.Lines.{is_new_observation, marked_by_callback, marked_by_change, marked_by_event, observations}

abbrev busy_of : Device → ℕ
busy_of d = d.last_busy

-- when each device was last marked as busy
abbrev pub busy : Views → List ℕ
busy v = map (λ d. d.last_busy) v.devices

-- with the observation of a device
abbrev sets : ℕ → Option DevId → List ℕ → List ℕ
sets t None l = l
sets t (Some d) l = slice_set l d.0 t

kept : (v : Views) (d : DevId) (x : Device) → x.last_busy ≡ (device v d).last_busy → busy (with_device v d x) ≡ busy v
kept v d x same = map-set_same busy_of v.devices d.0 x fresh_device same

marked : (t : ℕ) (v : Views) (d : DevId) (x : Device) → x.last_busy ≡ t → busy (with_device v d x) ≡ sets t (Some d) (busy v)
marked t v d x same = map-set busy_of v.devices d.0 x ∙ ap (slice_set (busy v) d.0) same

either : (b : Bool) (x y : Views) (l : List ℕ) → busy x ≡ l → busy y ≡ l → busy (if b then x else y) ≡ l
either true x y l p q = p
either false x y l p q = q

-- events
got_busy : (plan : Plan) (d : DevId) (w : Why) (v : Views) → busy (got plan d w v) ≡ busy v
unfolding set_held
got_busy plan d why.Caller v = kept v d _ refl
got_busy plan d why.Forbid v = kept v d _ refl
got_busy plan d (why.Link c) v = refl
got_busy plan d _ v = refl

gave_busy : (plan : Plan) (d : DevId) (w : Why) (v : Views) → busy (gave plan d w v) ≡ busy v
unfolding set_held
gave_busy plan d why.Caller v = kept v d _ refl
gave_busy plan d why.Forbid v = kept v d _ refl
gave_busy plan d (why.Link c) v = refl
gave_busy plan d _ v = refl

-- the counts that suppliers have back observation none
freed : (f : ℕ → Device → ℕ) (n : ℕ) (l : List Device) → map busy_of (map (λ p. record p.1 { usage = f p.0 p.1 }) (enumerate_from n l)) ≡ map busy_of l
freed f n [] = refl
freed f n (x ∷ l) = ap (λ rest. x.last_busy ∷ rest) (freed f (n + 1) l)

freed_busy : (plan : Plan) (d : DevId) (v : Views) → busy (frees_links plan d v) ≡ busy v
unfolding frees_links
freed_busy plan d v = freed (λ i x. x.usage - held_from plan v.held d i) 0 v.devices

word_busy : (plan : Plan) (t : ℕ) (d : DevId) (w : Word) (v : Views) → busy (by_word plan t d w v) ≡ sets t (marked_by_event (event.State d w)) (busy v)
word_busy plan t d word.Active v = marked t (set_status status.Active d v) d _ refl ∙ ap (sets t (Some d)) (kept v d _ refl)
word_busy plan t d word.Resuming v = kept v d _ refl
word_busy plan t d word.Suspended v = kept v d _ refl
word_busy plan t d word.Deferred v = kept v d _ refl
word_busy plan t d word.ForcedActive v = kept (set_status status.Active d v) d _ refl ∙ kept v d _ refl
word_busy plan t d word.ForcedSuspended v =
    freed_busy plan d (disarm d (set_error (pos 0) d (set_status status.Suspended d v))) ∙ kept (set_status status.Suspended d v) d _ refl ∙ kept v d _ refl

end_busy : (d : DevId) (k : Cb) (c : ℤ) (v : Views) → busy (by_end d k c v) ≡ busy v
end_busy d cb.Idle c v = kept v d _ refl
end_busy d cb.Suspend c v =
    let one : busy (set_status status.Active d v) ≡ busy v = kept v d _ refl in
    either (int_eq c (pos 0)) _ _ (busy v) refl (either (is_try_again c) _ _ (busy v) one (kept (set_status status.Active d v) d _ refl ∙ one))
end_busy d cb.Resume c v = either (int_eq c (pos 0)) _ _ (busy v) refl (kept v d _ refl)

work_busy : (d : DevId) (act : WorkAct) (v : Views) → busy (by_work d act v) ≡ busy v
work_busy d (Queue r) v = refl
work_busy d Defer v = refl
work_busy d (Run r) v = refl

timer_busy : (d : DevId) (act : TimerAct) (v : Views) → busy (by_timer d act v) ≡ busy v
timer_busy d (Arm at autosuspends) v = refl
timer_busy d (Fire autosuspends) v = refl

event_busy : (plan : Plan) (t : ℕ) (e : Event) (v : Views) → busy (by_event plan t e v) ≡ sets t (marked_by_event e) (busy v)
unfolding by_event
event_busy plan t (event.Get d w) v = got_busy plan d w _ ∙ kept v d _ refl
event_busy plan t (event.Put d w) v = gave_busy plan d w _ ∙ kept v d _ refl
event_busy plan t (event.State d w) v = word_busy plan t d w v
event_busy plan t (event.Begin d cb.Idle) v = kept v d _ refl
event_busy plan t (event.Begin d cb.Suspend) v = kept v d _ refl
event_busy plan t (event.Begin d cb.Resume) v = kept v d _ refl
event_busy plan t (event.End d k c) v = end_busy d k c v
event_busy plan t (event.Domain d is_up n) v = either is_up _ _ (busy v) refl refl
event_busy plan t (event.Work d act) v = work_busy d act v
event_busy plan t (event.Timer d act) v = timer_busy d act v
event_busy plan t _ v = refl

-- changes
callback_busy : (plan : Plan) (d : DevId) (t : ℕ) (v : Views) → busy (callback_marks plan d t v) ≡ sets t (if marks_busy plan d then Some d else None) (busy v)
unfolding callback_marks
callback_busy plan d t v = go (marks_busy plan d)
  where
    go : (b : Bool) → busy (if b then set_last_busy t d v else v) ≡ sets t (if b then Some d else None) (busy v)
    go true = marked t v d _ refl
    go false = refl

ended_busy : (plan : Plan) (d : DevId) (c : ℤ) (t : ℕ) (v : Views) → busy (suspend_ended plan d c t v) ≡ sets t (if marks_busy plan d then Some d else None) (busy v)
unfolding suspend_ended
ended_busy plan d c t v =
    let l : List ℕ = sets t (if marks_busy plan d then Some d else None) (busy v) in
    let one = callback_busy plan d t v in
    either (int_eq c (pos 0)) _ _ l one (either (is_try_again c) _ _ l one one)

enabled_busy : (d : DevId) (v : Views) → busy (enables d v) ≡ busy v
unfolding enables
enabled_busy d v =
    let none : busy (set_depth 0 d v) ≡ busy v = kept v d _ refl in
    either (nat_eq (device v d).depth 1) _ _ (busy v) (kept (set_depth 0 d v) d _ refl ∙ none) (kept v d _ refl)

change_busy : (plan : Plan) (t : ℕ) (c : Change) (v : Views) → busy (change_views plan t c v) ≡ sets t (marked_by_change plan c) (busy v)
unfolding rcancel set_present
change_busy plan t (change.ResumeCancel d) v = either (has_auto_timer v d) _ _ (busy v) refl refl
change_busy plan t (change.CallbackMarks d) v = callback_busy plan d t v
change_busy plan t (change.SuspendEnded d c) v = ended_busy plan d c t v
change_busy plan t (change.MarkBusy d) v = marked t v d _ refl
change_busy plan t (change.Enable d) v = enabled_busy d v
change_busy plan t (change.Disable d) v = kept v d _ refl
change_busy plan t (change.DisableBusy d) v = kept v d _ refl
change_busy plan t (change.DisableAtOnce d) v = kept (disables d v) d _ refl ∙ kept v d _ refl
change_busy plan t (change.KeepStatus d) v = kept v d _ refl
change_busy plan t (change.Set d use_auto delay) v = kept v d _ refl
change_busy plan t (change.Ignore d ignores) v = kept v d _ refl
change_busy plan t _ v = refl

pub busy_after : (plan : Plan) (t : ℕ) (e : Event) (c : Change) (v : Views) → busy (by_event plan t e (change_views plan t c v)) ≡ sets t (marked_by_event e) (sets t (marked_by_change plan c) (busy v))
busy_after plan t e c v = event_busy plan t e (change_views plan t c v) ∙ ap (sets t (marked_by_event e)) (change_busy plan t c v)

length_sets : (t : ℕ) (o : Option DevId) (l : List ℕ) → length (sets t o l) ≡ length l
length_sets t None l = refl
length_sets t (Some d) l = length-set l d.0 t

observation_is : (v : Views) (d : DevId) → slice_index_or (busy v) d.0 0 ≡ (device v d).last_busy
observation_is v d = get_or-map busy_of v.devices d.0 fresh_device

-- no new observation leaves the observations as they were
same : (t : ℕ) (o : Option DevId) (v : Views) → option_map_or (is_new_observation v t) o false ≡ false → sets t o (busy v) ≡ busy v
same t None v is = refl
same t (Some d) v is = go (nat_lt d.0 (length v.devices)) (nat_eq (device v d).last_busy t) refl refl is
  where
    go : (b e : Bool) → nat_lt d.0 (length v.devices) ≡ b → nat_eq (device v d).last_busy t ≡ e → (b && not e) ≡ false → slice_set (busy v) d.0 t ≡ busy v
    go false e out is_e is_not = let behind : length (busy v) ≤ d.0 = grind (arith, nat_tests, length-map v.devices busy_of) in set_past (busy v) d.0 t behind
    go true true inside is_e is_not =
        let now : slice_index_or (busy v) d.0 0 ≡ t = observation_is v d ∙ grind (arith, nat_tests) in
        ap (slice_set (busy v) d.0) (sym now) ∙ set-get_or (busy v) d.0 0
    go true false inside is_e is_not = cc is_not

-- what an observation at t leaves at a place that has it
stays : (t : ℕ) (o : Option DevId) (l : List ℕ) (i : ℕ) → i < length l → slice_index_or l i 0 ≡ t → slice_index_or (sets t o l) i 0 ≡ t
stays t None l i lt is = is
stays t (Some d) l i lt is = elim (eqb_tells d.0 i) [
  | inl q ↦ get_or-set_at l d.0 i t 0 (sym q.1) (omega (arith, lt, q.1))
  | inr q ↦ get_or-set_other l d.0 i t 0 (λ e. q.1 (sym e)) ∙ is
]

-- a new observation is another
record IsNew (v : Views) (t : ℕ) (d : DevId) : Type 0 where
  pub within : d.0 < length (busy v)
  pub differs : slice_index_or (busy v) d.0 0 ≢ t

is_new : (v : Views) (t : ℕ) (d : DevId) → is_new_observation v t d ≡ true → IsNew v t d
is_new v t d is = go (nat_lt d.0 (length v.devices)) (nat_eq (device v d).last_busy t) refl refl is
  where
    go : (b e : Bool) → nat_lt d.0 (length v.devices) ≡ b → nat_eq (device v d).last_busy t ≡ e → (b && not e) ≡ true → IsNew v t d
    go false e out is_e now = cc now
    go true true inside is_e now = cc now
    go true false inside is_e now = record {
      within = grind (arith, nat_tests, length-map v.devices busy_of);
      differs = λ at. let there : (device v d).last_busy ≡ t = sym (observation_is v d) ∙ at in grind (arith, nat_tests);
    }

pub observations_same : (plan : Plan) (t : ℕ) (e : Event) (c : Change) (v : Views) → observations plan v t e c ≡ false → busy (by_event plan t e (change_views plan t c v)) ≡ busy v
observations_same plan t e c v none =
    busy_after plan t e c v ∙ ap (sets t (marked_by_event e)) (same t (marked_by_change plan c) v (left _ _ none)) ∙ same t (marked_by_event e) v (right _ _ none)
  where
    left : (a b : Bool) → (a || b) ≡ false → a ≡ false
    left true b is = cc is
    left false b is = refl

    right : (a b : Bool) → (a || b) ≡ false → b ≡ false
    right true b is = cc is
    right false b is = is

pub observations_differ : (plan : Plan) (t : ℕ) (e : Event) (c : Change) (v : Views) → observations plan v t e c ≡ true → busy (by_event plan t e (change_views plan t c v)) ≢ busy v
observations_differ plan t e c v some equal = go (marked_by_change plan c) (marked_by_event e) some (sym (busy_after plan t e c v) ∙ equal)
  where
    at : (d : DevId) (l : List ℕ) → IsNew v t d → slice_index_or l d.0 0 ≡ t → l ≡ busy v → ⊥
    at d l new is all = new.differs (sym (ap (λ r. slice_index_or r d.0 0) all) ∙ is)

    by_change : (d : DevId) (o : Option DevId) → IsNew v t d → sets t o (sets t (Some d) (busy v)) ≡ busy v → ⊥
    by_change d o new all =
        let within = new.within in
        at d _ new (stays t o (sets t (Some d) (busy v)) d.0 (omega (arith, within, length_sets t (Some d) (busy v))) (get_or-set_at (busy v) d.0 d.0 t 0 refl within)) all

    by_own : (o : Option DevId) (d : DevId) → IsNew v t d → sets t (Some d) (sets t o (busy v)) ≡ busy v → ⊥
    by_own o d new all =
        let within = new.within in
        at d _ new (get_or-set_at (sets t o (busy v)) d.0 d.0 t 0 refl (omega (arith, within, length_sets t o (busy v)))) all

    or : (a b : Bool) → (a || b) ≡ true → (a ≡ true) ⊎ (b ≡ true)
    or true b is = inl refl
    or false b is = inr is

    first : (o p : Option DevId) → option_map_or (is_new_observation v t) o false ≡ true → sets t p (sets t o (busy v)) ≡ busy v → ⊥
    first None p is all = cc is
    first (Some d) p is all = by_change d p (is_new v t d is) all

    second : (o p : Option DevId) → option_map_or (is_new_observation v t) p false ≡ true → sets t p (sets t o (busy v)) ≡ busy v → ⊥
    second o None is all = cc is
    second o (Some d) is all = by_own o d (is_new v t d is) all

    go : (o p : Option DevId) → (option_map_or (is_new_observation v t) o false || option_map_or (is_new_observation v t) p false) ≡ true → sets t p (sets t o (busy v)) ≡ busy v → ⊥
    go o p is all = elim (or (option_map_or (is_new_observation v t) o false) _ is) [ inl a ↦ first o p a all | inr b ↦ second o p b all ]

-- past the plan's devices none is marked
pub unmarked : (plan : Plan) (d : DevId) → length plan.devices ≤ d.0 → marked_by_callback plan d ≡ None
unfolding marks_busy
unmarked plan d le = ap (λ o. if option_map_or (λ row. let x : DeviceRow = row in x.busy) o false then Some d else None) (slice_get_past plan.devices d.0 le)
