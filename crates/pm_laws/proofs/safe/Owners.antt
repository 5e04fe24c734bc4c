-- The parts of a device's transition are those of its owners.
use Rattle.std.proofs.Common.{ℕ, ◌≡◌, ◌+◌, ◌<◌, ◌≤◌, Bool, true, false, not, ◌&&◌, List, [], ◌∷◌, length, if◌then◌else◌, refl, arith}
use Rattle.std.specs.List.{sum_by}
use Rattle.std.proofs.lemmas.List.Sums.{sum_by-cons, sum_by-le-sum_by}
use Rattle.pm_base.specs.declared.DevId.{DevId}
use Rattle.pm_model.specs.declared.plan.Plan.{Plan}
use Rattle.pm_model.specs.declared.stage.Await.TheVariants as await
use Rattle.pm_model.specs.declared.stage.ControlStage.TheVariants as control
use Rattle.pm_model.specs.declared.stage.ResumeStage.TheVariants as resume
use Rattle.pm_model.specs.declared.stage.Stage.{Stage}
use Rattle.pm_model.specs.declared.stage.Stage.TheVariants as stage
use Rattle.pm_model.specs.declared.stage.SuspendStage.TheVariants as suspend
use Rattle.pm_model.specs.Counted.{is_same}
use Rattle.pm_model.specs.Derived.{is_suspending, is_resuming}
use Rattle.pm_model.specs.ResumeTable.{is_supplied}
use Rattle.pm_model.specs.World.{World}
use Rattle.pm_laws.specs.counts.Sums.{one, tally}
use Rattle.pm_laws.specs.counts.Owners.{places, owns_suspend, owns_resume, HasOneOwner}
use Rattle.pm_laws.specs.safe.Parts.{Phase, suspending, lowering, giving, preparing, refused, Part, no_part, part, part_of, counts, at_part, any_phase}

pub one_most : (b : Bool) → one b ≤ 1
one_most true = omega arith
one_most false = omega arith

-- the phases of a suspend, and those of a resume or of set_active
abbrev pub lowers : Phase → Bool
lowers suspending = true
lowers lowering = true
lowers giving = true
lowers _ = false

abbrev pub raises : Phase → Bool
raises x = not (lowers x)

and_true : (b : Bool) → one (b && true) ≡ one b
and_true true = refl
and_true false = refl

and_false : (b : Bool) → one (b && false) ≡ 0
and_false true = refl
and_false false = refl

pub suspend_parts : (d : DevId) (s : Stage) → at_part lowers d s ≡ owns_suspend d s
suspend_parts d (stage.Suspend (suspend.Running e f since)) = and_true (is_same d e)
suspend_parts d (stage.Suspend (suspend.Domain e f)) = and_true (is_same d e)
suspend_parts d (stage.Suspend (suspend.Links e f)) = and_true (is_same d e)
suspend_parts d (stage.Await (await.SuspendLinks e f)) = and_true (is_same d e)
suspend_parts d (stage.Resume (resume.Links r)) = and_false (is_same d r.dev)
suspend_parts d (stage.Resume (resume.Callback r)) = and_false (is_same d r.dev)
suspend_parts d (stage.Resume (resume.Running r since)) = and_false (is_same d r.dev)
suspend_parts d (stage.Resume (resume.Resumed r)) = and_false (is_same d r.dev)
suspend_parts d (stage.Resume (resume.Domain r c)) = and_false (is_same d r.dev)
suspend_parts d (stage.Resume (resume.Unwind r c)) = and_false (is_same d r.dev)
suspend_parts d (stage.Control (control.ActiveLinks e)) = and_false (is_same d e)
suspend_parts d (stage.Control (control.ActiveUnwind e c)) = and_false (is_same d e)
suspend_parts d (stage.Await (await.ResumeSupplier r link)) = and_false (is_same d r.dev)
suspend_parts d (stage.Await (await.ResumeUnwind r c)) = and_false (is_same d r.dev)
suspend_parts d (stage.Await (await.ActiveSupplier e link)) = and_false (is_same d e)
suspend_parts d (stage.Await (await.ActiveUnwind e c)) = and_false (is_same d e)
suspend_parts d (stage.Resume (resume.Supplied r c)) = supplied (is_supplied c)
  where
    supplied : (b : Bool) → counts lowers d (part r.dev (if b then preparing else refused)) ≡ 0
    supplied true = and_false (is_same d r.dev)
    supplied false = and_false (is_same d r.dev)
suspend_parts d _ = refl

pub resume_parts : (d : DevId) (s : Stage) → at_part raises d s ≡ owns_resume d s
resume_parts d (stage.Suspend (suspend.Running e f since)) = and_false (is_same d e)
resume_parts d (stage.Suspend (suspend.Domain e f)) = and_false (is_same d e)
resume_parts d (stage.Suspend (suspend.Links e f)) = and_false (is_same d e)
resume_parts d (stage.Await (await.SuspendLinks e f)) = and_false (is_same d e)
resume_parts d (stage.Resume (resume.Links r)) = and_true (is_same d r.dev)
resume_parts d (stage.Resume (resume.Callback r)) = and_true (is_same d r.dev)
resume_parts d (stage.Resume (resume.Running r since)) = and_true (is_same d r.dev)
resume_parts d (stage.Resume (resume.Resumed r)) = and_true (is_same d r.dev)
resume_parts d (stage.Resume (resume.Domain r c)) = and_true (is_same d r.dev)
resume_parts d (stage.Resume (resume.Unwind r c)) = and_true (is_same d r.dev)
resume_parts d (stage.Control (control.ActiveLinks e)) = and_true (is_same d e)
resume_parts d (stage.Control (control.ActiveUnwind e c)) = and_true (is_same d e)
resume_parts d (stage.Await (await.ResumeSupplier r link)) = and_true (is_same d r.dev)
resume_parts d (stage.Await (await.ResumeUnwind r c)) = and_true (is_same d r.dev)
resume_parts d (stage.Await (await.ActiveSupplier e link)) = and_true (is_same d e)
resume_parts d (stage.Await (await.ActiveUnwind e c)) = and_true (is_same d e)
resume_parts d (stage.Resume (resume.Supplied r c)) = supplied (is_supplied c)
  where
    supplied : (b : Bool) → counts raises d (part r.dev (if b then preparing else refused)) ≡ one (is_same d r.dev)
    supplied true = and_true (is_same d r.dev)
    supplied false = and_true (is_same d r.dev)
resume_parts d _ = refl

-- each part is one of the two
split : (same low : Bool) → one (same && true) ≡ one (same && low) + one (same && not low)
split true true = refl
split true false = refl
split false low = refl

owned : (d : DevId) (s : Stage) → at_part any_phase d s ≡ owns_suspend d s + owns_resume d s
owned d s = let low = suspend_parts d s in let high = resume_parts d s in let whole = go (part_of s) in omega arith
  where
    go : (x : Part) → counts any_phase d x ≡ counts lowers d x + counts raises d x
    go no_part = refl
    go (part e x) = split (is_same d e) (lowers x)

-- a test that passes less counts less
fewer : (same a b : Bool) → one a ≤ one b → one (same && a) ≤ one (same && b)
fewer true a b le = le
fewer false a b le = omega arith

weaker_at : (f g : Phase → Bool) (d : DevId) → ((x : Phase) → one (f x) ≤ one (g x)) → (s : Stage) → at_part f d s ≤ at_part g d s
weaker_at f g d le s = go (part_of s)
  where
    go : (x : Part) → counts f d x ≤ counts g d x
    go no_part = omega arith
    go (part e x) = fewer (is_same d e) (f x) (g x) (le x)

-- a sum is the sum of two where each stage's weight is
pub sum_both : (f g h : Stage → ℕ) → ((s : Stage) → f s ≡ g s + h s) → (stack : List Stage) → sum_by f stack ≡ sum_by g stack + sum_by h stack
sum_both f g h is [] = refl
sum_both f g h is (s ∷ rest) = omega (arith, is s, sum_both f g h is rest, sum_by-cons f s rest, sum_by-cons g s rest, sum_by-cons h s rest)

pub tally_both : (f g h : Stage → ℕ) → ((s : Stage) → f s ≡ g s + h s) → (stacks : List (List Stage)) → tally f stacks ≡ tally g stacks + tally h stacks
tally_both f g h is [] = refl
tally_both f g h is (stack ∷ rest) =
    omega (arith, sum_both f g h is stack, tally_both f g h is rest, sum_by-cons (sum_by f) stack rest, sum_by-cons (sum_by g) stack rest, sum_by-cons (sum_by h) stack rest)

pub tally_least : (f g : Stage → ℕ) → ((s : Stage) → f s ≤ g s) → (stacks : List (List Stage)) → tally f stacks ≤ tally g stacks
tally_least f g le stacks = sum_by-le-sum_by _ _ stacks (λ stack. sum_by-le-sum_by f g stack le)

pub tally_same : (f g : Stage → ℕ) (stacks : List (List Stage)) → ((s : Stage) → f s ≡ g s) → tally f stacks ≡ tally g stacks
tally_same f g stacks is =
    let below = tally_least f g (λ s. let e = is s in omega arith) stacks in
    let above = tally_least g f (λ s. let e = is s in omega arith) stacks in omega arith

-- those of two tests that no phase passes both are among all
apart_at : (same a b : Bool) → one a + one b ≤ 1 → one (same && a) + one (same && b) ≤ one (same && true)
apart_at true a b le = le
apart_at false a b le = omega arith

apart_owned : (f g : Phase → Bool) (d : DevId) → ((x : Phase) → one (f x) + one (g x) ≤ 1) → (s : Stage) → at_part f d s + at_part g d s ≤ at_part any_phase d s
apart_owned f g d apart s = go (part_of s)
  where
    go : (x : Part) → counts f d x + counts g d x ≤ counts any_phase d x
    go no_part = omega arith
    go (part e x) = apart_at (is_same d e) (f x) (g x) (apart x)

pub apart_parts : (f g : Phase → Bool) (d : DevId) (stacks : List (List Stage)) → ((x : Phase) → one (f x) + one (g x) ≤ 1)
    → tally (at_part f d) stacks + tally (at_part g d) stacks ≤ tally (at_part any_phase d) stacks
apart_parts f g d stacks apart =
    let le = tally_least (λ s. at_part f d s + at_part g d s) (at_part any_phase d) (apart_owned f g d apart) stacks in
    let sum = tally_both (λ s. at_part f d s + at_part g d s) (at_part f d) (at_part g d) (λ s. refl) stacks in omega arith

pub weaker_parts : (f g : Phase → Bool) (d : DevId) (stacks : List (List Stage)) → ((x : Phase) → one (f x) ≤ one (g x)) → tally (at_part f d) stacks ≤ tally (at_part g d) stacks
weaker_parts f g d stacks le = tally_least (at_part f d) (at_part g d) (weaker_at f g d le) stacks

-- those of some phases are among all
pub some_parts : (test : Phase → Bool) (d : DevId) (stacks : List (List Stage)) → tally (at_part test d) stacks ≤ tally (at_part any_phase d) stacks
some_parts test d stacks = weaker_parts test any_phase d stacks (λ x. one_most (test x))

pub owners_are : (plan : Plan) (w : World) (d : DevId) → HasOneOwner plan w → d.0 < length plan.devices
    → one (is_suspending w.views d) + one (is_resuming w.views d) ≡ tally (at_part any_phase d) (places w)
owners_are plan w d owners within =
    let sum = tally_both (at_part any_phase d) (owns_suspend d) (owns_resume d) (owned d) (places w) in
    let a = owners.suspending d within in
    let b = owners.resuming d within in
    omega arith
