-- A device that is on its way up holds a count on its parent; and a device with no counted child has none that is up.
use Rattle.std.proofs.Common.{ℕ, zero, suc, ◌≡◌, ◌+◌, ◌<◌, ◌≤◌, Bool, true, false, cond, not, ◌&&◌, List, [], ◌∷◌, Option, Some, None, length, nat_eq, slice_get, slice_index_or, if◌then◌else◌, ap, refl, ◌∙◌, arith}
use Rattle.std.specs.Prelude.{◌||◌}
use Rattle.std.specs.List.{sum_by, zip, count_by}
use Rattle.std.specs.Option.{option_map_or}
use Rattle.std.proofs.lemmas.List.Sums.{sum_by-cons}
use Rattle.pm_base.specs.declared.ActorId.TheVariants.{Caller, Work, Timer}
use Rattle.pm_base.specs.declared.DevId.{DevId}
use Rattle.pm_model.specs.declared.plan.Plan.{Plan}
use Rattle.pm_model.specs.declared.rows.DeviceRow.{DeviceRow}
use Rattle.pm_model.specs.declared.stage.Await.TheVariants as await
use Rattle.pm_model.specs.declared.stage.ControlStage.TheVariants as control
use Rattle.pm_model.specs.declared.stage.ResumeCall.{ResumeCall}
use Rattle.pm_model.specs.declared.stage.ResumeStage.TheVariants as resume
use Rattle.pm_model.specs.declared.stage.Stage.{Stage}
use Rattle.pm_model.specs.declared.stage.Stage.TheVariants as stage
use Rattle.pm_model.specs.declared.stage.SuspendStage.TheVariants as suspend
use Rattle.pm_model.specs.declared.views.Device.{Device}
use Rattle.pm_model.specs.Counted.{is_same}
use Rattle.pm_model.specs.Derived.{children, is_counted_child, is_active_status, is_suspending_status}
use Rattle.pm_model.specs.PlanRows.{parent, parent_of, has_parent}
use Rattle.pm_model.specs.ResumeTable.{is_supplied}
use Rattle.pm_model.specs.Views.{Views, device, fresh_device}
use Rattle.pm_model.specs.World.{World}
use Rattle.pm_laws.specs.counts.Sums.{one, tally}
use Rattle.pm_laws.specs.counts.Counts.{holds, has_mark}
use Rattle.pm_laws.specs.counts.Owners.{places, owns_suspend}
use Rattle.pm_laws.proofs.counts.Places.{tally_joined}
use Rattle.pm_laws.proofs.stacks.Tests.{same_self}
use Rattle.pm_laws.specs.stacks.Shape.{Fits, IsMarked, AreNested, IsNested, Nested, call_of, Call}
use Rattle.pm_laws.specs.safe.Parts.{preparing, refused, counts, part, at_part}
use Rattle.pm_laws.specs.safe.Needs.{needs_parent}
use Rattle.pm_laws.proofs.safe.Owners.{sum_both, tally_both}
use Rattle.pm_laws.proofs.safe.Steps.{same_is}

-- the mark held is set, so the parent has a count of this call
pub record IsChild (plan : Plan) (d p : DevId) : Type 0 where
  pub has : has_parent plan d ≡ true
  pub is : parent_of plan d ≡ p

pub child_of : (plan : Plan) (d p : DevId) → parent plan d ≡ Some p → IsChild plan d p
unfolding has_parent parent_of
child_of plan d p e = record { has = rw e refl; is = rw e refl }

marked : (plan : Plan) (d p : DevId) (r : ResumeCall) → IsChild plan d p → IsMarked plan r → one (is_same d r.dev && true) ≤ 0 + one (has_mark plan p r)
marked plan d p r child m = go (is_same d r.dev) refl
  where
    held : (h a : Bool) → a ≡ true → a && not h ≡ false → h ≡ true
    held true a e k = refl
    held false true e k = cc
    held false false e k = cc

    go : (b : Bool) → is_same d r.dev ≡ b → one (b && true) ≤ 0 + one (has_mark plan p r)
    go false z = omega arith
    go true z =
        let same : r.dev ≡ d = same_is d r.dev z in
        let has : has_parent plan r.dev ≡ true = ap (has_parent plan) same ∙ child.has in
        let up : parent_of plan r.dev ≡ p = ap (parent_of plan) same ∙ child.is in
        let h = held r.held (has_parent plan r.dev) has m in
        let mark : has_mark plan p r ≡ true = rw (h, has, up, same_self p.0) refl in
        let n : one (has_mark plan p r) ≡ 1 = ap one mark in omega arith

unneeded : (b : Bool) (n : ℕ) → one (b && false) ≤ n
unneeded true n = omega arith
unneeded false n = omega arith

kept : (b : Bool) (n : ℕ) → one (b && true) ≤ one b + n
kept true n = omega arith
kept false n = omega arith

stage_marked : (plan : Plan) (d p : DevId) (s : Stage) → IsChild plan d p → Fits plan s → at_part needs_parent d s ≤ owns_suspend d s + holds plan p s
stage_marked plan d p (stage.Suspend (suspend.Running e f since)) child fits = kept (is_same d e) _
stage_marked plan d p (stage.Suspend (suspend.Domain e f)) child fits = unneeded (is_same d e) _
stage_marked plan d p (stage.Suspend (suspend.Links e f)) child fits = unneeded (is_same d e) _
stage_marked plan d p (stage.Await (await.SuspendLinks e f)) child fits = unneeded (is_same d e) _
stage_marked plan d p (stage.Resume (resume.Links r)) child fits = marked plan d p r child fits
stage_marked plan d p (stage.Resume (resume.Supplied r c)) child fits = supplied (is_supplied c)
  where
    supplied : (b : Bool) → counts needs_parent d (part r.dev (if b then preparing else refused)) ≤ 0 + one (has_mark plan p r)
    supplied true = marked plan d p r child fits
    supplied false = marked plan d p r child fits
stage_marked plan d p (stage.Resume (resume.Callback r)) child fits = marked plan d p r child fits
stage_marked plan d p (stage.Resume (resume.Running r since)) child fits = marked plan d p r child fits
stage_marked plan d p (stage.Resume (resume.Resumed r)) child fits = marked plan d p r child fits
stage_marked plan d p (stage.Resume (resume.Domain r c)) child fits = unneeded (is_same d r.dev) _
stage_marked plan d p (stage.Resume (resume.Unwind r c)) child fits = unneeded (is_same d r.dev) _
stage_marked plan d p (stage.Control (control.ActiveLinks e)) child fits = unneeded (is_same d e) _
stage_marked plan d p (stage.Control (control.ActiveUnwind e c)) child fits = unneeded (is_same d e) _
stage_marked plan d p (stage.Await (await.ResumeSupplier r link)) child fits = marked plan d p r child fits
stage_marked plan d p (stage.Await (await.ResumeUnwind r c)) child fits = unneeded (is_same d r.dev) _
stage_marked plan d p (stage.Await (await.ActiveSupplier e link)) child fits = unneeded (is_same d e) _
stage_marked plan d p (stage.Await (await.ActiveUnwind e c)) child fits = unneeded (is_same d e) _
stage_marked plan d p _ child fits = omega arith

-- so over a stack, and over all
nested_marked : (plan : Plan) (d p : DevId) (k : Call) (rest : List Stage) → IsChild plan d p → Nested plan k rest
    → sum_by (at_part needs_parent d) rest ≤ sum_by (owns_suspend d) rest + sum_by (holds plan p) rest
nested_marked plan d p k [] child nested = omega arith
nested_marked plan d p k (s ∷ rest) child nested =
    omega (arith, stage_marked plan d p s child nested.1, nested_marked plan d p (call_of s) rest child nested.2, sum_by-cons (at_part needs_parent d) s rest, sum_by-cons (owns_suspend d) s rest, sum_by-cons (holds plan p) s rest)

stack_marked : (plan : Plan) (d p : DevId) (stack : List Stage) → IsChild plan d p → IsNested plan stack
    → sum_by (at_part needs_parent d) stack ≤ sum_by (owns_suspend d) stack + sum_by (holds plan p) stack
stack_marked plan d p [] child nested = omega arith
stack_marked plan d p (s ∷ rest) child nested =
    omega (arith, stage_marked plan d p s child nested.1, nested_marked plan d p (call_of s) rest child nested.2, sum_by-cons (at_part needs_parent d) s rest, sum_by-cons (owns_suspend d) s rest, sum_by-cons (holds plan p) s rest)

-- what weighs no more in each stack of this shape weighs no more in all
stacks_within : (plan : Plan) (f g : Stage → ℕ) (stacks : List (List Stage)) → ((stack : List Stage) → IsNested plan stack → sum_by f stack ≤ sum_by g stack)
    → ((i : ℕ) → IsNested plan (slice_index_or stacks i [])) → tally f stacks ≤ tally g stacks
stacks_within plan f g [] le nested = omega arith
stacks_within plan f g (stack ∷ rest) le nested =
    omega (arith, le stack (nested 0), stacks_within plan f g rest le (λ i. nested (suc i)), sum_by-cons (sum_by f) stack rest, sum_by-cons (sum_by g) stack rest)

pub all_within : (plan : Plan) (w : World) (f g : Stage → ℕ) → ((stack : List Stage) → IsNested plan stack → sum_by f stack ≤ sum_by g stack) → AreNested plan w
    → tally f (places w) ≤ tally g (places w)
all_within plan w f g le nested =
    omega (
      arith,
      stacks_within plan f g w.caller_places le (λ i. nested (Caller i)),
      stacks_within plan f g w.work_places le (λ i. nested (Work i)),
      stacks_within plan f g w.timer_places le (λ i. nested (Timer i)),
      tally_joined f w.caller_places w.work_places w.timer_places,
      tally_joined g w.caller_places w.work_places w.timer_places,
    )

pub all_marked : (plan : Plan) (w : World) (d p : DevId) → IsChild plan d p → AreNested plan w
    → tally (at_part needs_parent d) (places w) ≤ tally (owns_suspend d) (places w) + tally (holds plan p) (places w)
all_marked plan w d p child nested =
    let both : (Stage → ℕ) = λ s. owns_suspend d s + holds plan p s in
    omega (
      arith,
      all_within plan w (at_part needs_parent d) both (λ stack shape. let sum = sum_both both (owns_suspend d) (holds plan p) (λ s. refl) stack in omega (arith, stack_marked plan d p stack child shape)) nested,
      tally_both both (owns_suspend d) (holds plan p) (λ s. refl) (places w),
    )

-- where no child is counted, this one is neither Active nor Suspending
uncounted : (p : DevId) (rows : List DeviceRow) (xs : List Device) (i : ℕ) (row : DeviceRow) → slice_get rows i ≡ Some row → i < length xs → row.parent ≡ Some p
    → count_by (λ q. is_counted_child p q.0 q.1) (zip rows xs) ≡ 0 → is_active_status (slice_index_or xs i fresh_device).status || is_suspending_status (slice_index_or xs i fresh_device).status ≡ false
uncounted p [] xs i row is within par none = cc
uncounted p (r ∷ rows) [] i row is within par none = absurd (omega arith)
uncounted p (r ∷ rows) (x ∷ xs) zero row is within par none =
    let same : r ≡ row = cc in
    let here : option_map_or (λ q. nat_eq q.0 p.0) r.parent false ≡ true = rw (same, par, same_self p.0) refl in
    let split = sum_by-cons (λ (q : DeviceRow × Device). cond (is_counted_child p q.0 q.1) 1 0) (r, x) (zip rows xs) in
    go (option_map_or (λ q. nat_eq q.0 p.0) r.parent false) (is_active_status x.status) (is_suspending_status x.status) here (let k : one (is_counted_child p r x) ≡ 0 = omega (arith, split, none) in k)
  where
    go : (a b c : Bool) → a ≡ true → one (a && (b || c)) ≡ 0 → b || c ≡ false
    go true false false e k = refl
    go true true c e k = absurd (omega arith)
    go true false true e k = absurd (omega arith)
    go false b c e k = cc
uncounted p (r ∷ rows) (x ∷ xs) (suc i) row is within par none =
    let split = sum_by-cons (λ (q : DeviceRow × Device). cond (is_counted_child p q.0 q.1) 1 0) (r, x) (zip rows xs) in
    uncounted p rows xs i row is (omega arith) par (let k : count_by (λ q. is_counted_child p q.0 q.1) (zip rows xs) ≡ 0 = omega (arith, split, none) in k)

pub no_children : (plan : Plan) (v : Views) (d p : DevId) → parent plan d ≡ Some p → length v.devices ≡ length plan.devices → d.0 < length plan.devices → children plan v p ≡ 0
    → is_active_status (device v d).status || is_suspending_status (device v d).status ≡ false
unfolding children parent
no_children plan v d p e size within none = go (slice_get plan.devices d.0) refl e
  where
    go : (r : Option DeviceRow) → slice_get plan.devices d.0 ≡ r → option_map_or (λ row. row.parent) r None ≡ Some p → is_active_status (device v d).status || is_suspending_status (device v d).status ≡ false
    go None at e = cc
    go (Some row) at e = uncounted p plan.devices v.devices d.0 row at (omega (arith, within, size)) e none
