-- How deep a stack can be: the room falls strictly from a stage to the one above it.
use Rattle.std.proofs.Common.{ℕ, ◌≡◌, ◌+◌, ◌<◌, ◌≤◌, Bool, true, false, List, [], ◌∷◌, Some, None, length, refl, inl, inr, arith}
use Rattle.pm_base.specs.declared.DevId.{DevId}
use Rattle.pm_base.specs.declared.codes.TheConstants.{ASYNC}
use Rattle.pm_model.specs.declared.event.Helper.{Helper}
use Rattle.pm_model.specs.declared.event.Helper.TheVariants as helper
use Rattle.pm_model.specs.declared.plan.Plan.{Plan}
use Rattle.pm_model.specs.declared.stage.Await.{Await}
use Rattle.pm_model.specs.declared.stage.Await.TheVariants as await
use Rattle.pm_model.specs.declared.stage.Stage.{Stage}
use Rattle.pm_model.specs.declared.stage.Stage.TheVariants as stage
use Rattle.pm_model.specs.Derived.{has}
use Rattle.pm_model.specs.HelperTable.{flags_of}
use Rattle.pm_model.specs.PlanRows.{parent_of}
use Rattle.pm_model.specs.Spelling.{takes_device}
use Rattle.pm_model.specs.WellFormed.{called_for}
use Rattle.pm_laws.specs.stacks.Depth.{longest_chain, quiet_chain}
use Rattle.pm_laws.specs.stacks.Shape.{Call, none, own, lowers, raises, is_odd, call_of, await_call, May, MayZero, Fits, Nested, IsNested}
use Rattle.pm_laws.proofs.stacks.Chains.{parent_chain, supplier_chain, quiet_parent, quiet_le, quiet_some}
use Rattle.pm_laws.proofs.stacks.Zeros.{raised, lowered, helper_calls, zero_raised, zero_lowered, parents, suppliers, zero_calls}

-- how many stages may stand from a stage of this call up
abbrev pub lower_room : ℕ → ℕ → Bool → ℕ
lower_room long quiet true = quiet
lower_room long quiet false = long + 2

abbrev pub room : Plan → Call → ℕ
room plan none = 1
room plan (own None) = 1
room plan (own (Some d)) = longest_chain plan d + 3
room plan (lowers d odd) = lower_room (longest_chain plan d) (quiet_chain plan d) odd
room plan (raises d f p) = longest_chain plan d + 1

any_lower : (plan : Plan) (d : DevId) (odd : Bool) → lower_room (longest_chain plan d) (quiet_chain plan d) odd ≤ longest_chain plan d + 2
any_lower plan d true = omega (arith, quiet_le plan d)
any_lower plan d false = omega arith

not_odd : (f : ℕ) → has f ASYNC ≡ false → is_odd f ≡ false
not_odd f e = rw e refl

-- a helper that returns 0 after a call has a device
zero_device : (plan : Plan) (h : Helper) (d : DevId) (k : Call) → MayZero plan h d k → called_for h d ≡ Some d
zero_device plan helper.Delay d k m = elim m [ ]
zero_device plan _ d k m = refl

device_called : (h : Helper) (d : DevId) → takes_device h ≡ true → called_for h d ≡ Some d
device_called h d takes = rw takes refl

above : (plan : Plan) (a : Await) (k : Call) → Fits plan (stage.Await a) → May plan a k → room plan k < room plan (await_call a)
above plan (await.SuspendLinks d f) k fits (l, s, is, e) = rw (e, not_odd f fits) (omega (arith, supplier_chain plan l d s is, quiet_le plan s))
above plan (await.SuspendDeferred d f) k fits e = rw (e, not_odd f fits) (omega arith)
above plan (await.SuspendParent d f) k (inl sync) (has, e) = rw (e, not_odd f sync) (omega (arith, parent_chain plan d has, quiet_le plan (parent_of plan d)))
above plan (await.SuspendParent d f) k (inr lacks) (has, e) = rw e (go (is_odd f))
  where
    go : (odd : Bool) → quiet_chain plan (parent_of plan d) < lower_room (longest_chain plan d) (quiet_chain plan d) odd
    go true = quiet_parent plan d has lacks
    go false = omega (arith, parent_chain plan d has, quiet_le plan (parent_of plan d))
above plan (await.ResumeParent r) k fits (has, e) = rw e (omega (arith, parent_chain plan r.dev has))
above plan (await.ResumeSupplier r l) k fits (s, is, e) = rw e (omega (arith, supplier_chain plan l r.dev s is))
above plan (await.ResumeIdle r) k fits e = rw e (omega (arith, quiet_le plan r.dev))
above plan (await.ResumeUnwind r c) k fits (l, s, is, e) = rw e (omega (arith, supplier_chain plan l r.dev s is, quiet_le plan s))
above plan (await.ResumePut r c) k fits (has, e) = rw e (omega (arith, parent_chain plan r.dev has, quiet_le plan (parent_of plan r.dev)))
above plan (await.Return h d) k fits e = rw (device_called h d fits) (elim (helper_calls h d k e) [
  | raised is ↦ rw is (omega arith)
  | lowered apart is ↦ rw is (omega (arith, any_lower plan d (is_odd (flags_of h))))
])
above plan (await.ReturnZero h d) k fits m = rw (zero_device plan h d k m) (elim (zero_calls plan h d k m) [
  | zero_raised e ↦ rw e (omega arith)
  | zero_lowered odd e ↦ rw e (omega (arith, any_lower plan d odd))
  | parents p ↦ rw p.1 (omega (arith, parent_chain plan d p.0, quiet_le plan (parent_of plan d)))
  | suppliers p ↦ rw p.3 (omega (arith, supplier_chain plan p.0 d p.1 p.2, quiet_le plan p.1))
])
above plan (await.DisableResume d) k fits e = rw e (omega arith)
above plan (await.BarrierResume d) k fits e = rw e (omega arith)
above plan (await.ActiveSupplier d l) k fits (s, is, e) = rw e (omega (arith, supplier_chain plan l d s is))
above plan (await.ActiveUnwind d c) k fits (l, s, is, e) = rw e (omega (arith, supplier_chain plan l d s is, quiet_le plan s))
above plan (await.SuppliersIdle d s) k fits (l, is, e) = rw e (omega (arith, supplier_chain plan l d s is, quiet_le plan s))

-- the call at the bottom of a stack
abbrev pub bottom : Call → List Stage → Call
bottom k [] = k
bottom k (s ∷ rest) = bottom (call_of s) rest

some_room : (plan : Plan) (k : Call) → 0 < room plan k
some_room plan none = omega arith
some_room plan (own None) = omega arith
some_room plan (own (Some d)) = omega arith
some_room plan (lowers d true) = quiet_some plan d
some_room plan (lowers d false) = omega arith
some_room plan (raises d f p) = omega arith

deep : (plan : Plan) (k : Call) (rest : List Stage) → Nested plan k rest → length rest + room plan k ≤ room plan (bottom k rest)
deep plan k [] nested = omega arith
deep plan k (stage.Await a ∷ rest) nested = omega (arith, above plan a k nested.1 nested.0, deep plan (await_call a) rest nested.2)
deep plan k (s ∷ rest) nested = elim nested.0 [ ]

-- a stack has at most as many stages as its bottom has room for
pub depth_of : (plan : Plan) (s : Stage) (rest : List Stage) → IsNested plan (s ∷ rest) → length (s ∷ rest) ≤ room plan (bottom (call_of s) rest)
depth_of plan s rest nested = omega (arith, some_room plan (call_of s), deep plan (call_of s) rest nested.2)
