-- What needs a device Active holds a count on it, or stands above what does.
use Rattle.std.proofs.Common.{ℕ, ◌≡◌, ◌+◌, ◌<◌, ◌≤◌, inl, inr, Bool, true, false, ◌&&◌, List, [], ◌∷◌, length, slice_index_or, ap, refl, ◌∙◌, subst, arith}
use Rattle.std.specs.List.{sum_by}
use Rattle.std.proofs.lemmas.Bool.{cases_lt}
use Rattle.std.proofs.lemmas.List.{get_or_past}
use Rattle.std.proofs.lemmas.List.Sums.{sum_by-cons}
use Rattle.pm_base.specs.declared.ActorId.{ActorId}
use Rattle.pm_base.specs.declared.ActorId.TheVariants.{Caller, Work, Timer}
use Rattle.pm_base.specs.declared.DevId.{DevId}
use Rattle.pm_model.specs.declared.plan.Plan.{Plan}
use Rattle.pm_model.specs.declared.stage.Await.{Await}
use Rattle.pm_model.specs.declared.stage.Await.TheVariants as await
use Rattle.pm_model.specs.declared.stage.Purpose.{Purpose}
use Rattle.pm_model.specs.declared.stage.Purpose.TheVariants as purpose
use Rattle.pm_model.specs.declared.stage.ResumeCall.{ResumeCall}
use Rattle.pm_model.specs.declared.stage.ResumeStage.TheVariants as resume
use Rattle.pm_model.specs.declared.stage.Stage.{Stage}
use Rattle.pm_model.specs.declared.stage.Stage.TheVariants as stage
use Rattle.pm_model.specs.Counted.{is_same}
use Rattle.pm_model.specs.PlanRows.{has_parent, parent_of}
use Rattle.pm_model.specs.Promises.{implies}
use Rattle.pm_model.specs.World.{World, place}
use Rattle.pm_laws.specs.counts.Sums.{one, tally}
use Rattle.pm_laws.specs.counts.Counts.{has_mark, holds}
use Rattle.pm_laws.specs.counts.Owners.{places}
use Rattle.pm_laws.proofs.counts.Links.{neither}
use Rattle.pm_laws.proofs.counts.Places.{IsPlaced, tally_placed}
use Rattle.pm_laws.specs.stacks.Shape.{Call, raises, call_of, raising, May, Fits, IsNested, Nested}
use Rattle.pm_laws.proofs.stacks.Tests.{front, rear}
use Rattle.pm_laws.proofs.stacks.Zeros.{raised, lowered, helper_calls, zero_raised, zero_lowered, parents, suppliers, zero_calls}
use Rattle.pm_laws.specs.gets.Answered.{some_of}
use Rattle.pm_laws.proofs.gets.Passing.{either_of}
use Rattle.pm_laws.specs.gets.Undisturbed.{is_child, call_flags_fit, is_bad, needs_up}
use Rattle.pm_laws.proofs.gets.Bools.{good_is}

one_more : (n m : ℕ) → n ≡ 1 → 1 ≤ n + m
one_more n m e = omega (arith, e)

-- below the resume for a child stands the child's, which holds a count
child_awaits : (plan : Plan) (d e : DevId) (f : ℕ) (a : Await) → is_same d e ≡ true → Fits plan (stage.Await a) → May plan a (raises e f purpose.Child) → holds plan d (stage.Await a) ≡ 1
child_awaits plan d e f (await.ResumeParent r) same fit (has, is) =
    let parents : e ≡ parent_of plan r.dev = cc in
    let here : is_same d (parent_of plan r.dev) ≡ true = subst (λ y. is_same d y ≡ true) parents same in
    let mark : has_mark plan d r ≡ true = rw (fit, here) refl in
    ap one mark
child_awaits plan d e f (await.SuspendLinks x g) same fit (l, s, is, at) = cc
child_awaits plan d e f (await.SuspendDeferred x g) same fit at = cc
child_awaits plan d e f (await.SuspendParent x g) same fit (is, at) = cc
child_awaits plan d e f (await.ResumeSupplier r l) same fit (s, is, at) = cc
child_awaits plan d e f (await.ResumeIdle r) same fit at = cc
child_awaits plan d e f (await.ResumeUnwind r c) same fit (l, s, is, at) = cc
child_awaits plan d e f (await.ResumePut r c) same fit (is, at) = cc
child_awaits plan d e f (await.Return h x) same fit at = elim (helper_calls h x (raises e f purpose.Child) at) [ raised k ↦ cc | lowered is k ↦ cc ]
child_awaits plan d e f (await.ReturnZero h x) same fit m = elim (zero_calls plan h x (raises e f purpose.Child) m) [
  | zero_raised k ↦ cc
  | zero_lowered odd k ↦ cc
  | parents p ↦ let k = p.1 in cc
  | suppliers p ↦ let k = p.3 in cc
]
child_awaits plan d e f (await.DisableResume x) same fit at = cc
child_awaits plan d e f (await.BarrierResume x) same fit at = cc
child_awaits plan d e f (await.ActiveSupplier x l) same fit (s, is, at) = cc
child_awaits plan d e f (await.ActiveUnwind x c) same fit (l, s, is, at) = cc
child_awaits plan d e f (await.SuppliersIdle x s) same fit (l, is, at) = cc

child_held : (plan : Plan) (d e : DevId) (f : ℕ) (rest : List Stage) → is_same d e ≡ true → Nested plan (raises e f purpose.Child) rest → 1 ≤ sum_by (holds plan d) rest
child_held plan d e f [] same nested = cc
child_held plan d e f (stage.Await a ∷ rest) same nested =
    omega (arith, child_awaits plan d e f a same nested.1 nested.0, sum_by-cons (holds plan d) (stage.Await a) rest)
child_held plan d e f (s ∷ rest) same nested = elim nested.0 [ ]

child_is : (p : Purpose) → is_child p ≡ true → p ≡ purpose.Child
child_is purpose.Child e = refl
child_is purpose.Plain e = cc
child_is (purpose.Link l) e = cc

done_held : (plan : Plan) (d : DevId) (r : ResumeCall) (n : ℕ) (rest : List Stage) → is_child r.purpose && is_same d r.dev ≡ true → Nested plan (raising r) rest → 1 ≤ n + sum_by (holds plan d) rest
done_held plan d r n rest e nested =
    let child : Nested plan (raises r.dev r.flags purpose.Child) rest = subst (λ p. Nested plan (raises r.dev r.flags p) rest) (child_is r.purpose (front _ _ e)) nested in
    let held = child_held plan d r.dev r.flags rest (rear (is_child r.purpose) _ e) child in omega arith

tried_held : (tried marked same : Bool) → implies tried marked ≡ true → tried && same ≡ true → marked && same ≡ true
tried_held true true same m e = e
tried_held true false same m e = cc
tried_held false marked same m e = cc

stage_held : (plan : Plan) (d x : DevId) (enabled : Bool) (s : Stage) (rest : List Stage) → is_bad plan x enabled s ≡ false → needs_up plan d s ≡ true → Nested plan (call_of s) rest
    → 1 ≤ holds plan d s + sum_by (holds plan d) rest
stage_held plan d x enabled (stage.Resume (resume.Verdict r tried)) rest good needs nested =
    let marked = rear (call_flags_fit r) (implies tried (r.held && has_parent plan r.dev)) (good_is _ good) in
    let mark : has_mark plan d r ≡ true = tried_held tried (r.held && has_parent plan r.dev) (is_same d (parent_of plan r.dev)) marked needs in
    one_more (one (has_mark plan d r)) _ (ap one mark)
stage_held plan d x enabled (stage.Resume (resume.Waiting r tried)) rest good needs nested =
    let marked = rear (call_flags_fit r) (implies tried (r.held && has_parent plan r.dev)) (good_is _ good) in
    let mark : has_mark plan d r ≡ true = tried_held tried (r.held && has_parent plan r.dev) (is_same d (parent_of plan r.dev)) marked needs in
    one_more (one (has_mark plan d r)) _ (ap one mark)
stage_held plan d x enabled (stage.Resume (resume.Idle r)) rest good needs nested = done_held plan d r _ rest needs nested
stage_held plan d x enabled (stage.Resume (resume.Done r c)) rest good needs nested = done_held plan d r _ rest needs nested
stage_held plan d x enabled (stage.Resume (resume.Parent r c)) rest good needs nested = done_held plan d r _ rest needs nested
stage_held plan d x enabled (stage.Await (await.ResumeIdle r)) rest good needs nested = done_held plan d r _ rest needs nested
stage_held plan d x enabled (stage.Await (await.ResumePut r c)) rest good needs nested = done_held plan d r _ rest needs nested
stage_held plan d x enabled _ rest good needs nested = cc

nested_held : (plan : Plan) (d x : DevId) (enabled : Bool) (k : Call) (stack : List Stage) → some_of (is_bad plan x enabled) stack ≡ false → some_of (needs_up plan d) stack ≡ true → Nested plan k stack
    → 1 ≤ sum_by (holds plan d) stack
nested_held plan d x enabled k [] good needs nested = cc
nested_held plan d x enabled k (s ∷ rest) good needs nested =
    let n = neither (is_bad plan x enabled s) (some_of (is_bad plan x enabled) rest) good in
    elim (either_of (needs_up plan d s) (some_of (needs_up plan d) rest) needs) [
      | inl here ↦ omega (arith, stage_held plan d x enabled s rest n.0 here nested.2, sum_by-cons (holds plan d) s rest)
      | inr under ↦ omega (arith, nested_held plan d x enabled (call_of s) rest n.1 under nested.2, sum_by-cons (holds plan d) s rest)
    ]

pub stack_held : (plan : Plan) (d x : DevId) (enabled : Bool) (stack : List Stage) → some_of (is_bad plan x enabled) stack ≡ false → some_of (needs_up plan d) stack ≡ true → IsNested plan stack
    → 1 ≤ sum_by (holds plan d) stack
stack_held plan d x enabled [] good needs nested = cc
stack_held plan d x enabled (s ∷ rest) good needs nested =
    let n = neither (is_bad plan x enabled s) (some_of (is_bad plan x enabled) rest) good in
    elim (either_of (needs_up plan d s) (some_of (needs_up plan d) rest) needs) [
      | inl here ↦ omega (arith, stage_held plan d x enabled s rest n.0 here nested.2, sum_by-cons (holds plan d) s rest)
      | inr under ↦ omega (arith, nested_held plan d x enabled (call_of s) rest n.1 under nested.2, sum_by-cons (holds plan d) s rest)
    ]

-- a place that has a stage is one of the world's
filled : (stacks : List (List Stage)) (i : ℕ) (stack : List Stage) → 1 ≤ length stack → stack ≡ (slice_index_or stacks i []) → i < length stacks
filled stacks i stack some is = elim (cases_lt i (length stacks)) [ inl lt ↦ lt | inr le ↦ absurd (past le) ]
  where
    past : length stacks ≤ i → ⊥
    past le = let empty : stack ≡ [] = is ∙ get_or_past stacks i [] le in let none = ap length empty in absurd (omega arith)

pub placed_some : (w : World) (a : ActorId) → 1 ≤ length (place w a) → IsPlaced w a
placed_some w (Caller c) some = filled w.caller_places c _ some refl
placed_some w (Work d) some = filled w.work_places d _ some refl
placed_some w (Timer d) some = filled w.timer_places d _ some refl

pub some_stage : (test : Stage → Bool) (stack : List Stage) → some_of test stack ≡ true → 1 ≤ length stack
some_stage test [] e = cc
some_stage test (s ∷ rest) e = omega arith

-- a place holds no more than all
pub place_most : (f : Stage → ℕ) (w : World) (a : ActorId) → IsPlaced w a → sum_by f (place w a) ≤ tally f (places w)
place_most f w a placed = let all = tally_placed f w a [] placed in let none : sum_by f [] ≡ 0 = refl in omega arith
