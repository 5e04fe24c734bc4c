-- What a line's event makes of held links and of domains.
use Rattle.std.proofs.Common.{ℕ, zero, suc, ◌≡◌, ◌<◌, Bool, true, false, ◌&&◌, List, [], ◌∷◌, Some, ℤ, pos, length, map, nat_eq, slice_get, slice_set, slice_index_or, fold, if◌then◌else◌, ap, refl, ◌∙◌, arith, inl, inr, subst}
use Rattle.std.specs.List.{zip, list_any}
use Rattle.std.specs.Option.{unwrap_or}
use Rattle.std.specs.Ordering.{int_eq}
use Rattle.std.proofs.lemmas.Bool.Decides.{eqb_tells}
use Rattle.std.proofs.lemmas.Grind.{get_or-set_at}
use Rattle.std.proofs.lemmas.List.{length-set, get_or-set_other}
use Rattle.pm_base.specs.declared.Cb.TheVariants as cb
use Rattle.pm_base.specs.declared.DevId.{DevId}
use Rattle.pm_base.specs.declared.Status.TheVariants as status
use Rattle.pm_base.specs.declared.Why.{Why}
use Rattle.pm_base.specs.declared.Why.TheVariants as why
use Rattle.pm_model.specs.declared.event.Event.{Event}
use Rattle.pm_model.specs.declared.event.Event.TheVariants as event
use Rattle.pm_model.specs.declared.event.TimerAct.{TimerAct}
use Rattle.pm_model.specs.declared.event.TimerAct.TheVariants.{Arm, Fire}
use Rattle.pm_model.specs.declared.event.Word.{Word}
use Rattle.pm_model.specs.declared.event.Word.TheVariants as word
use Rattle.pm_model.specs.declared.event.WorkAct.{WorkAct}
use Rattle.pm_model.specs.declared.event.WorkAct.TheVariants.{Queue, Defer, Run}
use Rattle.pm_model.specs.declared.plan.Plan.{Plan}
use Rattle.pm_model.specs.declared.rows.LinkRow.{LinkRow}
use Rattle.pm_model.specs.Changes.{set_held}
use Rattle.pm_model.specs.Counted.{is_same, only_if, says_held, says_on}
use Rattle.pm_model.specs.Derived.{up, down}
use Rattle.pm_model.specs.Events.{by_event, by_word, by_end, by_work, by_timer, got, gave, set_status, set_error, frees_links, is_try_again}
use Rattle.pm_model.specs.PlanRows.{is_of_pair}
use Rattle.pm_model.specs.Views.{Views, is_held, is_on}
use Rattle.pm_laws.proofs.counts.Accounts.{ended_held}
use Rattle.pm_laws.proofs.counts.Links.{eq_sym}
use Rattle.pm_laws.proofs.counts.Seen.{held_core}
use Rattle.pm_laws.proofs.counts.Turns.{quiet_event}

-- the links that pass a test get a value
pub mapped : (test : LinkRow → Bool) (b : Bool) (links : List LinkRow) (held : List Bool) (l : ℕ) (row : LinkRow) → slice_get links l ≡ Some row
    → l < length held → slice_index_or (map (λ p. if test p.0 then b else p.1) (zip links held)) l false ≡ unwrap_or (only_if (test row) b) (slice_index_or held l false)
mapped test b [] held l row is within = cc
mapped test b (x ∷ links) [] l row is within = absurd (omega arith)
mapped test b (x ∷ links) (h ∷ held) zero row is within = let same : x ≡ row = cc in ap (λ r. if test r then b else h) same ∙ go (test row)
  where
    go : (m : Bool) → (if m then b else h) ≡ unwrap_or (only_if m b) h
    go true = refl
    go false = refl
mapped test b (x ∷ links) (h ∷ held) (suc l) row is within = mapped test b links held l row is (omega arith)

and_turned : (a b : Bool) → a && b ≡ b && a
and_turned true true = refl
and_turned true false = refl
and_turned false true = refl
and_turned false false = refl

pub pair_turned : (c s : DevId) (row : LinkRow) → is_of_pair c s row ≡ is_same row.supplier s && is_same row.consumer c
pair_turned c s row = rw (eq_sym row.consumer.0 c.0, eq_sym row.supplier.0 s.0) (and_turned (nat_eq c.0 row.consumer.0) (nat_eq s.0 row.supplier.0))

-- link l is of this row, and it has an entry
pub record IsLink (plan : Plan) (v : Views) (l : ℕ) (row : LinkRow) : Type 0 where
  pub row_is : slice_get plan.links l ≡ Some row
  pub within : l < length v.held

paired_held : (plan : Plan) (c s : DevId) (b : Bool) (v : Views) (l : ℕ) (row : LinkRow) → IsLink plan v l row
    → is_held (set_held plan c s b v) l ≡ unwrap_or (only_if (is_same row.supplier s && is_same row.consumer c) b) (is_held v l)
unfolding set_held
paired_held plan c s b v l row is =
    mapped (is_of_pair c s) b plan.links v.held l row is.row_is is.within ∙ ap (λ m. unwrap_or (only_if m b) (is_held v l)) (pair_turned c s row)

freed_held : (plan : Plan) (c : DevId) (v : Views) (l : ℕ) (row : LinkRow) → IsLink plan v l row
    → is_held (frees_links plan c v) l ≡ unwrap_or (only_if (is_same row.consumer c) false) (is_held v l)
unfolding frees_links
freed_held plan c v l row is =
    mapped (λ r. nat_eq r.consumer.0 c.0) false plan.links v.held l row is.row_is is.within
    ∙ ap (λ m. unwrap_or (only_if m false) (is_held v l)) (eq_sym row.consumer.0 c.0)

got_held : (plan : Plan) (e : DevId) (w : Why) (v : Views) (l : ℕ) (row : LinkRow) → IsLink plan v l row
    → is_held (got plan e w v) l ≡ unwrap_or (says_held row.consumer row.supplier (event.Get e w)) (is_held v l)
got_held plan e why.Caller v l row is = refl
got_held plan e why.Forbid v l row is = refl
got_held plan e (why.Link c) v l row is = paired_held plan c e true v l row is
got_held plan e _ v l row is = refl

gave_held : (plan : Plan) (e : DevId) (w : Why) (v : Views) (l : ℕ) (row : LinkRow) → IsLink plan v l row
    → is_held (gave plan e w v) l ≡ unwrap_or (says_held row.consumer row.supplier (event.Put e w)) (is_held v l)
gave_held plan e why.Caller v l row is = refl
gave_held plan e why.Forbid v l row is = refl
gave_held plan e (why.Link c) v l row is = paired_held plan c e false v l row is
gave_held plan e _ v l row is = refl

word_held : (plan : Plan) (t : ℕ) (e : DevId) (w : Word) (v : Views) (l : ℕ) (row : LinkRow) → IsLink plan v l row
    → is_held (by_word plan t e w v) l ≡ unwrap_or (says_held row.consumer row.supplier (event.State e w)) (is_held v l)
word_held plan t e word.ForcedSuspended v l row is = freed_held plan e _ l row (record { row_is = is.row_is; within = is.within })
word_held plan t e word.Active v l row is = refl
word_held plan t e word.Resuming v l row is = refl
word_held plan t e word.Suspended v l row is = refl
word_held plan t e word.Deferred v l row is = refl
word_held plan t e word.ForcedActive v l row is = refl

-- a link is held after an event as the event says, or as it was
pub held_after : (plan : Plan) (t : ℕ) (e : Event) (v : Views) (l : ℕ) (row : LinkRow) → IsLink plan v l row
    → is_held (by_event plan t e v) l ≡ unwrap_or (says_held row.consumer row.supplier e) (is_held v l)
unfolding by_event
held_after plan t (event.Get x w) v l row is = got_held plan x w _ l row (record { row_is = is.row_is; within = is.within })
held_after plan t (event.Put x w) v l row is = gave_held plan x w _ l row (record { row_is = is.row_is; within = is.within })
held_after plan t (event.State x w) v l row is = word_held plan t x w v l row is
held_after plan t (event.Begin x cb.Idle) v l row is = refl
held_after plan t (event.Begin x cb.Suspend) v l row is = refl
held_after plan t (event.Begin x cb.Resume) v l row is = refl
held_after plan t (event.End x cb.Idle c) v l row is = refl
held_after plan t (event.End x cb.Suspend c) v l row is = ap (λ h. slice_index_or h l false) (ended_held x c v)
held_after plan t (event.End x cb.Resume c) v l row is = ap (λ h. slice_index_or h l false) (held_core v _ (quiet_event plan t (event.End x cb.Resume c) v tt))
held_after plan t (event.Domain x is_up n) v l row is = ap (λ h. slice_index_or h l false) (held_core v _ (quiet_event plan t (event.Domain x is_up n) v tt))
held_after plan t (event.Work x act) v l row is = ap (λ h. slice_index_or h l false) (held_core v _ (quiet_event plan t (event.Work x act) v tt))
held_after plan t (event.Timer x act) v l row is = ap (λ h. slice_index_or h l false) (held_core v _ (quiet_event plan t (event.Timer x act) v tt))
held_after plan t _ v l row is = refl

-- domains that are switched are as they are switched
switched : (b : Bool) (o : ℕ) (domains : List ℕ) (on : List Bool) → o < length on
    → slice_index_or (fold (λ on o. slice_set on o b) on domains) o false ≡ unwrap_or (only_if (list_any (nat_eq o) domains) b) (slice_index_or on o false)
switched b o [] on within = refl
switched b o (x ∷ domains) on within =
    switched b o domains (slice_set on x b) (rw (length-set on x b) within)
    ∙ elim (eqb_tells o x) [
      | inl q ↦ rw (q.0, get_or-set_at on x o b false q.1 (subst (λ n. n < length on) q.1 within)) (again (list_any (nat_eq o) domains))
      | inr q ↦ rw (q.0, get_or-set_other on x o b false q.1) refl
    ]
  where
    again : (m : Bool) → unwrap_or (only_if m b) b ≡ b
    again true = refl
    again false = refl

got_on : (plan : Plan) (e : DevId) (w : Why) (v : Views) (o : ℕ) → is_on (got plan e w v) o ≡ is_on v o
unfolding set_held
got_on plan e why.Caller v o = refl
got_on plan e why.Forbid v o = refl
got_on plan e (why.Link c) v o = refl
got_on plan e _ v o = refl

gave_on : (plan : Plan) (e : DevId) (w : Why) (v : Views) (o : ℕ) → is_on (gave plan e w v) o ≡ is_on v o
unfolding set_held
gave_on plan e why.Caller v o = refl
gave_on plan e why.Forbid v o = refl
gave_on plan e (why.Link c) v o = refl
gave_on plan e _ v o = refl

word_on : (plan : Plan) (t : ℕ) (e : DevId) (w : Word) (v : Views) (o : ℕ) → is_on (by_word plan t e w v) o ≡ is_on v o
unfolding frees_links
word_on plan t e word.Active v o = refl
word_on plan t e word.Resuming v o = refl
word_on plan t e word.Suspended v o = refl
word_on plan t e word.Deferred v o = refl
word_on plan t e word.ForcedActive v o = refl
word_on plan t e word.ForcedSuspended v o = refl

suspended_on : (e : DevId) (c : ℤ) (v : Views) (o : ℕ) → is_on (by_end e cb.Suspend c v) o ≡ is_on v o
suspended_on e c v o = go (int_eq c (pos 0)) (is_try_again c)
  where
    go : (b again : Bool)
        → is_on (if b then v else (if again then set_status status.Active e v else set_error c e (set_status status.Active e v))) o ≡ is_on v o
    go true again = refl
    go false true = refl
    go false false = refl

resumed_on : (e : DevId) (c : ℤ) (v : Views) (o : ℕ) → is_on (by_end e cb.Resume c v) o ≡ is_on v o
resumed_on e c v o = go (int_eq c (pos 0))
  where
    go : (b : Bool) → is_on (if b then v else set_error c e v) o ≡ is_on v o
    go true = refl
    go false = refl

work_on : (d : DevId) (act : WorkAct) (v : Views) (o : ℕ) → is_on (by_work d act v) o ≡ is_on v o
work_on d (Queue r) v o = refl
work_on d Defer v o = refl
work_on d (Run r) v o = refl

timer_on : (d : DevId) (act : TimerAct) (v : Views) (o : ℕ) → is_on (by_timer d act v) o ≡ is_on v o
timer_on d (Arm at auto_on) v o = refl
timer_on d (Fire auto_on) v o = refl

-- a domain is on after an event as the event says, or as it was
pub on_after : (plan : Plan) (t : ℕ) (e : Event) (v : Views) (o : ℕ) → o < length v.on
    → is_on (by_event plan t e v) o ≡ unwrap_or (says_on plan v o e) (is_on v o)
unfolding by_event
on_after plan t (event.Get x w) v o within = got_on plan x w _ o
on_after plan t (event.Put x w) v o within = gave_on plan x w _ o
on_after plan t (event.State x w) v o within = word_on plan t x w v o
on_after plan t (event.Begin x cb.Idle) v o within = refl
on_after plan t (event.Begin x cb.Suspend) v o within = refl
on_after plan t (event.Begin x cb.Resume) v o within = refl
on_after plan t (event.End x cb.Idle c) v o within = refl
on_after plan t (event.End x cb.Suspend c) v o within = suspended_on x c v o
on_after plan t (event.End x cb.Resume c) v o within = resumed_on x c v o
on_after plan t (event.Domain x true n) v o within = switched true o (up plan v x) v.on within
on_after plan t (event.Domain x false n) v o within = switched false o (down plan v x) v.on within
on_after plan t (event.Work x act) v o within = work_on x act v o
on_after plan t (event.Timer x act) v o within = timer_on x act v o
on_after plan t _ v o within = refl
