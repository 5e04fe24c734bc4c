-- Every run is exclusive.
use Rattle.std.proofs.Common.{ℕ, ◌≡◌, ◌+◌, ◌<◌, ◌≤◌, inl, inr, Bool, true, false, not, ◌&&◌, [], ◌∷◌, Some, pos, length, nat_eq, nat_lt, int_lt, if◌then◌else◌, ap, refl, sym, ◌∙◌, subst, arith}
use Rattle.std.specs.Prelude.{◌||◌}
use Rattle.std.proofs.lemmas.Bool.{cases_lt, ltb-false}
use Rattle.std.proofs.lemmas.List.{get_or_past}
use Rattle.pm_base.specs.declared.Cb.{Cb}
use Rattle.pm_base.specs.declared.Cb.TheVariants as cb
use Rattle.pm_base.specs.declared.DevId.{DevId}
use Rattle.pm_base.specs.declared.Req.{Req}
use Rattle.pm_base.specs.declared.Req.TheVariants as req
use Rattle.pm_base.specs.declared.Status.{Status}
use Rattle.pm_base.specs.declared.Status.TheVariants as status
use Rattle.pm_base.specs.declared.codes.TheConstants.{EAGAIN, EACCES, EBUSY, EINVAL}
use Rattle.pm_model.specs.declared.event.Event.{Event}
use Rattle.pm_model.specs.declared.event.Event.TheVariants as event
use Rattle.pm_model.specs.declared.event.Line.{Line}
use Rattle.pm_model.specs.declared.event.Word.{Word}
use Rattle.pm_model.specs.declared.event.Word.TheVariants as word
use Rattle.pm_model.specs.declared.plan.Plan.{Plan}
use Rattle.pm_model.specs.Counted.{runs}
use Rattle.pm_model.specs.Derived.{refusal, has_error, is_disabled, is_in_use, has_children, children, is_suspending, is_resuming, asks_resume, is_suspended, is_active, is_active_status, is_suspended_status, is_suspending_status, is_resuming_status}
use Rattle.pm_model.specs.History.{History}
use Rattle.pm_model.specs.IdleTable.{is_above_idle}
use Rattle.pm_model.specs.Lawful.{IsLawful}
use Rattle.pm_model.specs.Promises.{is_at_most_idle, is_unused, may_begin, is_exclusive}
use Rattle.pm_model.specs.Views.{Views, device, pending_of, fresh_device}
use Rattle.pm_model.specs.World.{world}
use Rattle.pm_laws.specs.counts.Sums.{one, tally}
use Rattle.pm_laws.specs.counts.Owners.{places, owns_resume}
use Rattle.pm_laws.proofs.counts.Runs.{Holds, lawful_holds}
use Rattle.pm_laws.proofs.counts.Said.{idle_said}
use Rattle.pm_laws.proofs.stacks.Tests.{same_self}
use Rattle.pm_laws.specs.safe.Kinds.{Kind, keeps, begins_idle, begins_suspend, begins_resume, begins_at_once, enters, sets_active, suspends, adds_link, drops_link, dev_of, from, is_silent, is_owners_word, MayIdle, EventIs, Guard}
use Rattle.pm_laws.specs.safe.LineKind.{HasKind}
use Rattle.pm_laws.specs.safe.Parts.{Phase, suspending, resuming, preparing, ready, at_part, passes}
use Rattle.pm_laws.proofs.safe.Lines.{line_kind}
use Rattle.pm_laws.proofs.safe.Owners.{raises, resume_parts, tally_same, some_parts, weaker_parts, apart_parts, owners_are}
use Rattle.pm_laws.proofs.safe.Refusals.{Rests, rests_so}
use Rattle.pm_laws.proofs.safe.Steps.{own_counts}
use Rattle.pm_laws.specs.safe.Running.{is_owners, runs_in}
use Rattle.pm_laws.proofs.safe.Running.{callbacks_run}

pub both_true : (a b : Bool) → a ≡ true → b ≡ true → a && b ≡ true
both_true true true p q = refl
both_true true false p q = cc
both_true false b p q = cc

neither_true : (a b : Bool) → a ≡ false → b ≡ false → not (a || b) ≡ true
neither_true false false p q = refl
neither_true false true p q = cc
neither_true true b p q = cc

no_one : (b : Bool) → one b ≡ 0 → b ≡ false
no_one true e = absurd (omega arith)
no_one false e = refl

-- an Active device is one of the plan's, and has no owner
active_within : (plan : Plan) (v : Views) (d : DevId) → length v.devices ≡ length plan.devices → is_active v d ≡ true → d.0 < length plan.devices
active_within plan v d size up = elim (cases_lt d.0 (length v.devices)) [
  | inl lt ↦ omega (arith, lt, size)
  | inr le ↦ absurd (past le)
]
  where
    past : length v.devices ≤ d.0 → ⊥
    past le = let k : false ≡ true = rw (get_or_past v.devices d.0 fresh_device le) at up in cc

pub unowned : (st : Status) (n : ℕ) → is_active_status st ≡ true → one (is_suspending_status st) + one (is_resuming_status st) ≡ n → n ≡ 0
unowned status.Active n up e = omega arith
unowned status.Suspended n up e = cc
unowned status.Suspending n up e = cc
unowned status.Resuming n up e = cc

pub rests : (plan : Plan) (h : History) (d : DevId) (q : Cb) → IsLawful plan h → d.0 < length plan.devices → is_owners q ≡ true → is_active (world plan h).views d ≡ true → runs q d h ≡ false
rests plan h d q lawful within owners up =
    let none = unowned (device (world plan h).views d).status _ up (owners_are plan (world plan h) d (lawful_holds plan h lawful).owners within) in
    no_one (runs q d h) (omega (arith, callbacks_run plan h d q lawful within owners, some_parts (runs_in q) d (places (world plan h))))

-- what stands in nobody's way
unused_so : (n : ℕ) → nat_lt 0 n ≡ false → nat_eq n 0 ≡ true
unused_so n e = let le : n ≤ 0 = ltb-false 0 n e in let none : n ≡ 0 = omega arith in rw none refl

childless_so : (n : ℕ) (i : Bool) → nat_lt 0 n && not i ≡ false → nat_eq n 0 || i ≡ true
childless_so n true e = right (nat_eq n 0)
  where
    right : (b : Bool) → b || true ≡ true
    right true = refl
    right false = refl
childless_so n false e = go (nat_lt 0 n) refl e
  where
    go : (b : Bool) → nat_lt 0 n ≡ b → b && true ≡ false → nat_eq n 0 || false ≡ true
    go true z e = cc
    go false z e = rw (unused_so n z) refl

unused : (plan : Plan) (v : Views) (d : DevId) → is_active v d ≡ true → is_in_use v d ≡ false → has_children plan v d ≡ false → asks_resume v d ≡ false → is_unused plan v d ≡ true
unused plan v d up idle childless unasked =
    both_true _ _ (both_true _ _ (both_true _ _ up (unused_so (device v d).usage idle)) (childless_so (children plan v d) (device v d).ignores childless)) (rw unasked refl)

-- an idle that isn't refused
record Idles (plan : Plan) (v : Views) (d : DevId) : Type 0 where
  idle : is_in_use v d ≡ false
  childless : has_children plan v d ≡ false
  unasked : asks_resume v d ≡ false

abbrev Three : Bool → Bool → Bool → Type 0
Three c d f = (c ≡ false) × (d ≡ false) × (f ≡ false)

free_of : (a b c d e f g : Bool)
    → int_lt (if a then EINVAL else if b then EACCES else if c then EAGAIN else if d then EBUSY else if e then EAGAIN else if f then EAGAIN else if g then pos 1 else pos 0) (pos 0) ≡ false
    → Three c d f
free_of true b c d e f g h = cc
free_of false true c d e f g h = cc
free_of false false true d e f g h = cc
free_of false false false true e f g h = cc
free_of false false false false true f g h = cc
free_of false false false false false true g h = cc
free_of false false false false false false g h = (refl, refl, refl)

idles_so : (plan : Plan) (v : Views) (d : DevId) → int_lt (refusal plan v d) (pos 0) ≡ false → Idles plan v d
unfolding refusal
idles_so plan v d free =
    let three = free_of (has_error v d) (is_disabled v d) (is_in_use v d) (has_children plan v d) (is_suspending v d && (pending_of v d).deferred) (asks_resume v d) (is_suspended v d) free in
    record { idle = three.0; childless = three.1; unasked = three.2 }

at_most : (r : Req) → is_above_idle r ≡ false → is_at_most_idle r ≡ true
at_most req.Nothing e = refl
at_most req.Idle e = refl
at_most req.Suspend e = cc
at_most req.Autosuspend e = cc
at_most req.Resume e = cc

-- a status is one of four
asleep : (st : Status) → is_suspending_status st || is_resuming_status st ≡ false → is_active_status st ≡ false → is_suspended_status st ≡ true
asleep status.Suspended a b = refl
asleep status.Active a b = cc
asleep status.Suspending a b = cc
asleep status.Resuming a b = cc

-- the phases before the callback of a resume
is_before : Phase → Bool
is_before preparing = true
is_before ready = true
is_before _ = false

before_raises : (x : Phase) → one (is_before x) ≤ one (raises x)
unfolding is_before
before_raises preparing = omega arith
before_raises ready = omega arith
before_raises _ = omega arith

before_apart : (q : Cb) (x : Phase) → one (runs_in q x) + one (is_before x) ≤ 1
unfolding is_before
before_apart cb.Suspend suspending = omega arith
before_apart cb.Resume resuming = omega arith
before_apart cb.Idle preparing = omega arith
before_apart cb.Idle ready = omega arith
before_apart cb.Suspend preparing = omega arith
before_apart cb.Suspend ready = omega arith
before_apart cb.Resume preparing = omega arith
before_apart cb.Resume ready = omega arith
before_apart _ _ = omega arith

ready_before : is_before ready ≡ true
unfolding is_before
ready_before = refl

preparing_before : is_before preparing ≡ true
unfolding is_before
preparing_before = refl

starts_before : (k : Kind) (x : Phase) → from k ≡ Some x → is_before x ≡ true → passes is_before (from k) ≡ 1
starts_before k x is e = rw (is, e) refl

pub at_most_one : (st : Status) (n : ℕ) → one (is_suspending_status st) + one (is_resuming_status st) ≡ n → n ≤ 1
at_most_one status.Active n e = omega arith
at_most_one status.Suspended n e = omega arith
at_most_one status.Suspending n e = omega arith
at_most_one status.Resuming n e = omega arith

-- a resume's callback begins
resume_begins : (plan : Plan) (h : History) (line : Line) (k : HasKind plan h line) (x : Phase) → IsLawful plan h → from k.kind ≡ Some x → is_before x ≡ true
    → may_begin plan h (let d = dev_of k.kind in event.Begin d cb.Resume) ≡ true
resume_begins plan h line k x lawful owner e = both_true _ _ resumes (neither_true _ _ (still cb.Suspend refl) (still cb.Resume refl))
  where
    d : DevId
    d = dev_of k.kind

    within : d.0 < length plan.devices
    within = k.within x owner

    known : Holds plan (world plan h)
    known = lawful_holds plan h lawful

    some : 1 ≤ tally (at_part is_before d) (places (world plan h))
    some = omega (arith, k.was is_before d, own_counts is_before d d (from k.kind) (same_self d.0), starts_before k.kind x owner e)

    resumes : is_resuming (world plan h).views d ≡ true
    resumes =
        let more = weaker_parts is_before raises d (places (world plan h)) before_raises in
        let same = tally_same (at_part raises d) (owns_resume d) (places (world plan h)) (resume_parts d) in
        let owners = known.owners.resuming d within in
        yes (is_resuming (world plan h).views d) (omega (arith, some))
      where
        yes : (b : Bool) → 1 ≤ one b → b ≡ true
        yes true le = refl
        yes false le = absurd (omega arith)

    still : (q : Cb) → is_owners q ≡ true → runs q d h ≡ false
    still q owners =
        let apart = apart_parts (runs_in q) is_before d (places (world plan h)) (before_apart q) in
        let few = at_most_one (device (world plan h).views d).status _ (owners_are plan (world plan h) d known.owners within) in
        no_one (runs q d h) (omega (arith, callbacks_run plan h d q lawful within owners, some))

silent_begins : (plan : Plan) (h : History) (e : Event) → is_silent e ≡ true → may_begin plan h e ≡ true
silent_begins plan h (event.Begin d k) is = cc
silent_begins plan h (event.State d w) is = cc
silent_begins plan h _ is = refl

owners_begins : (plan : Plan) (h : History) (d : DevId) (w : Word) → is_owners_word w ≡ true → may_begin plan h (event.State d w) ≡ true
owners_begins plan h d word.Suspended is = refl
owners_begins plan h d word.Deferred is = refl
owners_begins plan h d _ is = cc

line_begins : (plan : Plan) (h : History) (line : Line) → IsLawful plan (line ∷ h) → may_begin plan h line.event ≡ true
line_begins plan h line lawful = go k.kind refl k.event k.guard
  where
    v : Views
    v = (world plan h).views

    k : HasKind plan h line
    k = line_kind plan h line lawful

    size : length v.devices ≡ length plan.devices
    size = (lawful_holds plan h lawful.2).entries.devices

    idle : (d : DevId) → MayIdle plan v d → may_begin plan h (event.Begin d cb.Idle) ≡ true
    idle d g =
        let i = idles_so plan v d g.free in
        let within = active_within plan v d size g.active in
        let silent : runs cb.Idle d h ≡ false = sym (idle_said plan h d lawful.2 within) ∙ g.stands in
        both_true _ _ (both_true _ _ (unused plan v d g.active i.idle i.childless i.unasked) (at_most (pending_of v d).request g.request))
        (rw (silent, rests plan h d cb.Suspend lawful.2 within refl g.active, rests plan h d cb.Resume lawful.2 within refl g.active) refl)

    suspends_now : (d : DevId) → Rests plan v d → may_begin plan h (event.Begin d cb.Suspend) ≡ true
    suspends_now d r =
        let within = active_within plan v d size r.active in
        both_true _ _ (unused plan v d r.active r.unused r.childless r.unasked)
        (neither_true _ _ (rests plan h d cb.Suspend lawful.2 within refl r.active) (rests plan h d cb.Resume lawful.2 within refl r.active))

    at : (x : Kind) → k.kind ≡ x → (y : Phase) → from x ≡ Some y → is_before y ≡ true → may_begin plan h (let d = dev_of x in event.Begin d cb.Resume) ≡ true
    at x is y owner e = subst (λ z. may_begin plan h (let d = dev_of z in event.Begin d cb.Resume) ≡ true) is (resume_begins plan h line k y lawful.2 (ap from is ∙ owner) e)

    go : (x : Kind) → k.kind ≡ x → EventIs x line.event → Guard plan v x → may_begin plan h line.event ≡ true
    go (begins_idle d) is e g = rw e (idle d g)
    go (begins_suspend d) is e g = rw e (suspends_now d (rests_so plan v d g))
    go (begins_resume d) is e g = rw e (at (begins_resume d) is ready refl ready_before)
    go (begins_at_once d) is e g = rw e (at (begins_at_once d) is preparing refl preparing_before)
    go (enters d) is e g = rw e (asleep (device v d).status g.0 g.2)
    go (sets_active d) is e g = rw e (asleep (device v d).status g.0 g.1)
    go (suspends d w x) is e g = rw e (owners_begins plan h d w g.1)
    go (keeps d x) is e g = silent_begins plan h line.event e
    go (adds_link d s) is e g = silent_begins plan h line.event e
    go (drops_link d s) is e g = silent_begins plan h line.event e
    go _ is e g = rw e refl

pub exclusive : (plan : Plan) (h : History) → IsLawful plan h → is_exclusive plan h ≡ true
exclusive plan [] lawful = refl
exclusive plan (line ∷ h) lawful = both_true _ _ (line_begins plan h line lawful) (exclusive plan h lawful.2)
