-- A row of a resume leaves pending what was, or its device is Active.
use Rattle.std.proofs.Common.{ℕ, zero, suc, ◌≡◌, ◌≤◌, ◌⊎◌, Bool, true, false, not, ◌&&◌, ◌||◌, Option, Some, None, ℤ, pos, if◌then◌else◌, ap, refl, sym, ◌∙◌, inl, inr, arith}
use Rattle.std.specs.Ordering.{int_eq}
use Rattle.pm_base.specs.declared.DevId.{DevId}
use Rattle.pm_base.specs.declared.codes.TheConstants.{ASYNC, EACCES}
use Rattle.pm_model.specs.declared.stage.Change.{Change}
use Rattle.pm_model.specs.declared.event.Event.{Event}
use Rattle.pm_model.specs.declared.event.Event.TheVariants as event
use Rattle.pm_model.specs.declared.event.Word.TheVariants as word
use Rattle.pm_model.specs.declared.plan.Plan.{Plan}
use Rattle.pm_model.specs.declared.stage.ResumeCall.{ResumeCall}
use Rattle.pm_model.specs.declared.stage.ResumeStage.{ResumeStage}
use Rattle.pm_model.specs.declared.stage.ResumeStage.TheVariants as resume
use Rattle.pm_model.specs.declared.stage.Stage.{Stage}
use Rattle.pm_model.specs.declared.stage.Stage.TheVariants as stage
use Rattle.pm_model.specs.declared.stage.Then.{Then}
use Rattle.pm_model.specs.Derived.{has, is_moving, is_active, is_active_status, first_held, first_free}
use Rattle.pm_model.specs.PlanRows.{has_domain, has_parent}
use Rattle.pm_model.specs.ResumeTable.{leaves, resume_returns, resume_verdict, resume_takes, resume_links, resume_gives, resume_unwinds, is_supplied, resume_ends, resume_domain, resume_row}
use Rattle.pm_model.specs.Row.{Row, writes, waits, goes, back}
use Rattle.pm_model.specs.SuspendTable.{may_not_wait}
use Rattle.pm_model.specs.Views.{Views}
use Rattle.pm_laws.specs.counts.Sums.{one, plus}
use Rattle.pm_laws.proofs.counts.Rows.{said}
use Rattle.pm_laws.specs.stacks.Shape.{Fits, resume_call}
use Rattle.pm_laws.specs.safe.Pends.{asks, link_of, is_for, is_up, pends}
use Rattle.pm_laws.proofs.safe.Falling.{left}
use Rattle.pm_laws.proofs.stacks.Tests.{rear, same_self}

-- what a line owes to the links for which resumes of d are called
pub record Owing (v : Views) (s : Stage) (d : DevId) (e : Event) (next : Then) : Type 0 where
  pub paid : (l : ℕ) → (pends l s ≤ left l (asks s) next) ⊎ (is_active_status (said e v d) ≡ true)

abbrev pub OwesRow : Views → Stage → DevId → Row → Type 0
OwesRow v s d (writes e change next) = Owing v s d e next
OwesRow v s d (waits x) = Unit {0}

pub record Owes (v : Views) (s : Stage) (d : DevId) (row : Row) : Type 0 where
  pub paid : OwesRow v s d row

okay : {v : Views} {s : Stage} {d : DevId} {e : Event} {change : Change} {next : Then} → Owing v s d e next → Owes v s d (writes e change next)
okay o = record { paid = o }

waiting : {v : Views} {s : Stage} {d x : DevId} → Owes v s d (waits x)
waiting = record { paid = tt }

either : {v : Views} {s : Stage} {d : DevId} {x y : Row} (b : Bool) → (b ≡ true → Owes v s d x) → (b ≡ false → Owes v s d y) → Owes v s d (if b then x else y)
either {v} {s} {d} {x} {y} b f g = go b f g
  where
    go : (b : Bool) → (b ≡ true → Owes v s d x) → (b ≡ false → Owes v s d y) → Owes v s d (if b then x else y)
    go true f g = f refl
    go false f g = g refl

up_now : {v : Views} {s : Stage} {d : DevId} {e : Event} {next : Then} → is_active_status (said e v d) ≡ true → Owing v s d e next
up_now h = record { paid = λ l. inr h }

pends_on : {v : Views} {s : Stage} {d : DevId} {e : Event} {next : Then} → ((l : ℕ) → pends l s ≤ left l (asks s) next) → Owing v s d e next
pends_on h = record { paid = λ l. inl (h l) }

pends_same : {v : Views} {s : Stage} {d : DevId} {e : Event} {next : Then} → ((l : ℕ) → left l (asks s) next ≡ pends l s) → Owing v s d e next
pends_same h = pends_on (λ l. rw (h l) (omega arith))

-- the code with which the call ends, at once or behind R7
leaves_left : (plan : Plan) (r : ResumeCall) (c : ℤ) (l : ℕ) → left l (link_of r.purpose) (leaves plan r c) ≡ one (not (is_up c) && is_for l (link_of r.purpose))
unfolding leaves
leaves_left plan r c l = go (r.held && has_parent plan r.dev)
  where
    go : (b : Bool) → left l (link_of r.purpose) (if b then goes (stage.Resume (resume.Parent r c)) else back c) ≡ one (not (is_up c) && is_for l (link_of r.purpose))
    go true = refl
    go false = refl

-- a resume for a link may wait
abbrev pub MayWait : ResumeCall → Type 0
MayWait r = (l : ℕ) → link_of r.purpose ≡ Some l → r.flags ≡ 4

-- a resume that may not wait is for no link
waits_for_none : (r : ResumeCall) (l : ℕ) → MayWait r → may_not_wait r.flags ≡ true → is_for l (link_of r.purpose) ≡ false
unfolding has
waits_for_none r l right e = go (link_of r.purpose) refl
  where
    go : (o : Option ℕ) → link_of r.purpose ≡ o → is_for l o ≡ false
    go None is = refl
    go (Some k) is = let four = right k is in let k : false ≡ true = rw four at e in cc

none_asked : {v : Views} {d : DevId} {e : Event} {next : Then} (r : ResumeCall) (tried : Bool) → MayWait r → may_not_wait r.flags ≡ true
    → Owing v (stage.Resume (resume.Verdict r tried)) d e next
none_asked r tried right e = pends_on (λ l. rw (waits_for_none r l right e) (omega arith))

async_waits : (f : ℕ) → has f ASYNC ≡ true → may_not_wait f ≡ true
async_waits f e = rw e refl

active_said : (v : Views) (d : DevId) → is_active_status (said (event.State d word.Active) v d) ≡ true
active_said v d = rw (same_self d.0) refl

middle : (a b c : Bool) → a && b && c ≡ true → b ≡ true
middle true true true e = refl
middle true true false e = cc
middle true false c e = cc
middle false b c e = cc

returns_owe : (plan : Plan) (v : Views) (s : Stage) (r : ResumeCall) (c : ℤ) (change : Change)
    → ((l : ℕ) → pends l s ≡ one (not (is_up c) && is_for l (link_of r.purpose))) → asks s ≡ link_of r.purpose → Owes v s r.dev (resume_returns plan r c change)
returns_owe plan v s r c change same asked = okay (pends_same (λ l. ap (λ q. left l q (leaves plan r c)) asked ∙ leaves_left plan r c l ∙ sym (same l)))

returns_up : (plan : Plan) (v : Views) (s : Stage) (r : ResumeCall) (c : ℤ) (change : Change) → is_active v r.dev ≡ true
    → Owes v s r.dev (resume_returns plan r c change)
returns_up plan v s r c change up = okay (up_now up)

returns_last : (plan : Plan) (v : Views) (s : Stage) (r : ResumeCall) (c : ℤ) (change : Change) (a b : Bool) → a && is_active v r.dev && b ≡ true
    → Owes v s r.dev (resume_returns plan r c change)
returns_last plan v s r c change a b up = returns_up plan v s r c change (middle a (is_active v r.dev) b up)

verdict_owes : (plan : Plan) (v : Views) (r : ResumeCall) (tried : Bool) → MayWait r
    → Owes v (stage.Resume (resume.Verdict r tried)) r.dev (resume_verdict plan v r tried)
unfolding resume_verdict
verdict_owes plan v r tried right =
    search (either, okay, up_now, pends_same, returns_owe, returns_up, returns_last, rear, none_asked, async_waits, active_said) depth 40

-- at a stage of the same call that isn't done either
alike : {v : Views} {s : Stage} {d : DevId} {row : Row} (s' : Stage) → ((l : ℕ) → pends l s ≡ pends l s') → asks s ≡ asks s' → Owes v s' d row → Owes v s d row
alike {v} {s} {d} {row} s' same asked o = let it : OwesRow v s d row = go row o.paid in record { paid = it }
  where
    go : (row : Row) → OwesRow v s' d row → OwesRow v s d row
    go (writes e change next) h = record {
      paid = λ l. elim (h.paid l) [
        | inl le ↦ let was = same l in let by : left l (asks s) next ≡ left l (asks s') next = ap (λ q. left l q next) asked in inl (omega arith)
        | inr up ↦ inr up
      ];
    }
    go (waits x) h = tt

takes_owe : (plan : Plan) (v : Views) (r : ResumeCall) (t : ℕ) (x : Option (ℕ × DevId)) → Owes v (stage.Resume (resume.Links r)) r.dev (resume_takes plan v r t x)
takes_owe plan v r t (Some link) = okay (pends_on (λ l. more (one (is_for l (Some link.0))) (pends l (stage.Resume (resume.Links r)))))
  where
    more : (a b : ℕ) → b ≤ plus a b
    more zero b = omega arith
    more (suc a) b = omega arith
takes_owe plan v r t None = search (either, okay, pends_same)

links_owe : (plan : Plan) (v : Views) (r : ResumeCall) (t : ℕ) → Owes v (stage.Resume (resume.Links r)) r.dev (resume_links plan v r t)
unfolding resume_links
links_owe plan v r t = takes_owe plan v r t (first_free plan v r.dev)

bad_is_down : (c : ℤ) → is_supplied c ≡ false → is_up c ≡ false
bad_is_down c e = go (int_eq c (pos 0)) (int_eq c (pos 1)) (int_eq c EACCES) e
  where
    go : (x y z : Bool) → x || y || z ≡ false → x || y ≡ false
    go false false z e = refl
    go false true z e = cc
    go true y z e = cc

gives_owe : (plan : Plan) (v : Views) (r : ResumeCall) (c : ℤ) (x : Option (ℕ × DevId)) → is_supplied c ≡ false
    → Owes v (stage.Resume (resume.Unwind r c)) r.dev (resume_gives v r c x)
gives_owe plan v r c (Some link) bad = search (okay, pends_same)
gives_owe plan v r c None bad = okay (pends_same (λ l. rw (bad_is_down c bad) refl))

unwinds_owe : (plan : Plan) (v : Views) (r : ResumeCall) (c : ℤ) → is_supplied c ≡ false → Owes v (stage.Resume (resume.Unwind r c)) r.dev (resume_unwinds plan v r c)
unfolding resume_unwinds
unwinds_owe plan v r c bad = gives_owe plan v r c (first_held plan v r.dev) bad

ends_owe : (plan : Plan) (v : Views) (r : ResumeCall) (since : ℕ) → Owes v (stage.Resume (resume.Running r since)) r.dev (resume_ends plan v r)
unfolding resume_ends
ends_owe plan v r since = search (either, okay, pends_same)

domain_owes : (plan : Plan) (v : Views) (r : ResumeCall) (c : ℤ) → is_supplied c ≡ false → Owes v (stage.Resume (resume.Domain r c)) r.dev (resume_domain plan v r c)
unfolding resume_domain
domain_owes plan v r c bad = either (has_domain plan r.dev) (λ _. okay (pends_same (λ l. refl))) (λ _. alike (stage.Resume (resume.Unwind r c)) (λ l. refl) refl (unwinds_owe plan v r c bad))

pub resume_owes : (plan : Plan) (v : Views) (t : ℕ) (s : ResumeStage) → Fits plan (stage.Resume s) → MayWait (resume_call s)
    → Owes v (stage.Resume s) (resume_call s).dev (resume_row plan v s t)
resume_owes plan v t (resume.Enter r) h right = search (okay, pends_same)
resume_owes plan v t (resume.Verdict r tried) h right = verdict_owes plan v r tried right
resume_owes plan v t (resume.Waiting r tried) h right =
    either (is_moving v r.dev) (λ _. waiting) (λ _. alike (stage.Resume (resume.Verdict r tried)) (λ l. refl) refl (verdict_owes plan v r tried right))
resume_owes plan v t (resume.Links r) h right = links_owe plan v r t
resume_owes plan v t (resume.Supplied r c) h right =
    either (is_supplied c) (λ _. alike (stage.Resume (resume.Links r)) (λ l. refl) refl (links_owe plan v r t))
    (λ bad. alike (stage.Resume (resume.Unwind r c)) (λ l. refl) refl (unwinds_owe plan v r c bad))
resume_owes plan v t (resume.Callback r) h right = search (okay, pends_same)
resume_owes plan v t (resume.Running r since) h right = ends_owe plan v r since
resume_owes plan v t (resume.Resumed r) h right = search (okay, up_now, active_said)
resume_owes plan v t (resume.Idle r) h right = okay (pends_on (λ l. omega arith))
resume_owes plan v t (resume.Done r c) h right = search returns_owe
resume_owes plan v t (resume.Parent r c) h right = search (okay, pends_same)
resume_owes plan v t (resume.Domain r c) h right = domain_owes plan v r c h
resume_owes plan v t (resume.Unwind r c) h right = unwinds_owe plan v r c h
