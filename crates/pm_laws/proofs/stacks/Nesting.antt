-- A stack keeps its shape where its top gives way.
use Rattle.std.proofs.Common.{◌≡◌, Bool, true, false, List, [], ◌∷◌, ◌++◌, drop, Option, Some, None, ℤ, if◌then◌else◌, refl, sym, subst, inl, inr}
use Rattle.pm_base.specs.declared.DevId.{DevId}
use Rattle.pm_model.specs.Derived.{has}
use Rattle.pm_model.specs.declared.plan.Plan.{Plan}
use Rattle.pm_model.specs.declared.stage.Await.{Await}
use Rattle.pm_model.specs.declared.stage.Await.TheVariants as await
use Rattle.pm_model.specs.declared.stage.Handed.{Handed}
use Rattle.pm_model.specs.declared.stage.Handed.TheVariants as handed
use Rattle.pm_model.specs.declared.stage.HelperStage.TheVariants as at
use Rattle.pm_model.specs.declared.stage.Stage.{Stage}
use Rattle.pm_model.specs.declared.stage.Stage.TheVariants as stage
use Rattle.pm_model.specs.declared.stage.Then.{Then}
use Rattle.pm_model.specs.Handing.{take_code, after_code, after_back, after_then}
use Rattle.pm_model.specs.ResumeTable.{is_supplied}
use Rattle.pm_model.proofs.Arrivals.{on_handed, after_await}
use Rattle.pm_laws.specs.stacks.Shape.{Call, none, lowers, lowering, call_of, May, MayOver, Fits, IsAwake, IsBottom, Nested, IsNested}
use Rattle.pm_laws.proofs.stacks.Obeying.{Duty}
use Rattle.pm_laws.proofs.stacks.Standing.{IsStart, Stands}
use Rattle.pm_laws.proofs.stacks.Zeros.{raised, lowered, helper_calls, zero_raised, zero_lowered, parents, suppliers, zero_calls}

-- the stage that goes on belongs to the call that awaited
abbrev pub GoesOn : Plan → Await → Handed → Type 0
GoesOn plan a (handed.Goes s) = IsAwake s × (Fits plan (stage.Await a) → Fits plan s) × (call_of s ≡ call_of (stage.Await a))
GoesOn plan a (handed.Back k) = Unit {0}

either_goes : (plan : Plan) (a : Await) (b : Bool) (x y : Handed) → (b ≡ true → GoesOn plan a x) → (b ≡ false → GoesOn plan a y)
    → GoesOn plan a (if b then x else y)
either_goes plan a true x y p q = p refl
either_goes plan a false x y p q = q refl

pub goes_on : (plan : Plan) (a : Await) (c : ℤ) → GoesOn plan a (take_code a c)
unfolding take_code
goes_on plan (await.ActiveSupplier d link) c = either_goes plan (await.ActiveSupplier d link) (is_supplied c) _ _ (λ _. (tt, λ h. tt, refl)) (λ bad. (tt, λ h. bad, refl))
goes_on plan (await.ResumePut r kept) c = tt
goes_on plan (await.ResumeIdle r) c = (tt, λ h. (refl, refl), refl)
goes_on plan (await.SuspendLinks d f) c = (tt, λ h. h, refl)
goes_on plan (await.ResumeSupplier r link) c = (tt, λ h. h, refl)
goes_on plan (await.ResumeUnwind r kept) c = (tt, λ h. h, refl)
goes_on plan (await.SuspendDeferred d f) c = (tt, λ h. tt, refl)
goes_on plan (await.ActiveUnwind d kept) c = (tt, λ h. h, refl)
goes_on plan _ c = (tt, λ h. tt, refl)

nested_handed : (plan : Plan) (a : Await) (h : Handed) (rest : List Stage) → GoesOn plan a h → Fits plan (stage.Await a)
    → Nested plan (call_of (stage.Await a)) rest → ((k : ℤ) → IsNested plan (after_code rest k)) → IsNested plan (on_handed h rest (after_code rest))
nested_handed plan a (handed.Goes s) rest is fits nested below = (is.0, is.1 fits, subst (λ k. Nested plan k rest) (sym is.2) nested)
nested_handed plan a (handed.Back k) rest is fits nested below = below k

pub nested_code : (plan : Plan) (k : Call) (rest : List Stage) (c : ℤ) → Nested plan k rest → IsNested plan (after_code rest c)
nested_code plan k [] c h = tt
nested_code plan k (stage.Await a ∷ rest) c h =
    subst (IsNested plan) (sym (after_await a c rest)) (nested_handed plan a (take_code a c) rest (goes_on plan a c) h.1 h.2 (λ kept. nested_code plan (call_of (stage.Await a)) rest kept h.2))
nested_code plan k (s ∷ rest) c h = elim h.0 [ ]

-- the stages that take the place of a stage of this call
abbrev pub Chain : Plan → List Stage → Call → Type 0
Chain plan [] k = ⊥
Chain plan (x ∷ []) k = Fits plan x × (call_of x ≡ k)
Chain plan (x ∷ y ∷ rest) k = Fits plan x × MayOver plan y (call_of x) × Chain plan (y ∷ rest) k

abbrev pub StartsAwake : List Stage → Type 0
StartsAwake [] = ⊥
StartsAwake (s ∷ rest) = IsAwake s

abbrev pub GivesBack : Plan → Call → Option ℤ → List Stage → Type 0
GivesBack plan k None push = StartsAwake push × Chain plan push k
GivesBack plan k (Some c) push = Unit {0}

abbrev pub Stays : Plan → Call → Then → Type 0
Stays plan k next = GivesBack plan k next.back next.push

-- what starts at an empty place makes a stack of its own
abbrev pub Gives : Plan → Call → Then → Type 0
Gives plan none next = IsNested plan (after_then next [])
Gives plan k next = Stays plan k next

-- what is asked of a row at a stage of this call
abbrev pub Nesting : Plan → Call → Duty
Nesting plan k e change next = Gives plan k next

nested_chain : (plan : Plan) (x : Stage) (push : List Stage) (k : Call) (rest : List Stage) → Chain plan (x ∷ push) k → Nested plan k rest
    → Fits plan x × Nested plan (call_of x) (push ++ rest)
nested_chain plan x [] k rest chain nested = (chain.0, subst (λ z. Nested plan z rest) (sym chain.1) nested)
nested_chain plan x (y ∷ push) k rest chain nested =
    let below = nested_chain plan y push k rest chain.2 nested in (chain.0, (chain.1, below.0, below.1))

-- nothing awaits what hasn't started
pub none_awaited : (plan : Plan) (a : Await) → May plan a none → ⊥
none_awaited plan (await.SuspendLinks d f) (l, s, is, e) = cc
none_awaited plan (await.SuspendDeferred d f) e = cc
none_awaited plan (await.SuspendParent d f) (is, e) = cc
none_awaited plan (await.ResumeParent r) (is, e) = cc
none_awaited plan (await.ResumeSupplier r l) (s, is, e) = cc
none_awaited plan (await.ResumeIdle r) e = cc
none_awaited plan (await.ResumeUnwind r c) (l, s, is, e) = cc
none_awaited plan (await.ResumePut r c) (is, e) = cc
none_awaited plan (await.Return h d) e = elim (helper_calls h d none e) [ raised e ↦ cc | lowered is e ↦ cc ]
none_awaited plan (await.ReturnZero h d) m = elim (zero_calls plan h d none m) [
  | zero_raised e ↦ cc
  | zero_lowered odd e ↦ cc
  | parents p ↦ let e = p.1 in cc
  | suppliers p ↦ let e = p.3 in cc
]
none_awaited plan (await.DisableResume d) e = cc
none_awaited plan (await.BarrierResume d) e = cc
none_awaited plan (await.ActiveSupplier d l) (s, is, e) = cc
none_awaited plan (await.ActiveUnwind d c) (l, s, is, e) = cc
none_awaited plan (await.SuppliersIdle d s) (l, is, e) = cc

none_nested : (plan : Plan) (next : Then) (rest : List Stage) → IsNested plan (after_then next []) → Nested plan none rest
    → IsNested plan (after_then next rest)
none_nested plan next [] gives nested = gives
none_nested plan next (stage.Await a ∷ rest) gives nested = absurd (none_awaited plan a nested.0)
none_nested plan next (s ∷ rest) gives nested = elim nested.0 [ ]

stays_nested : (plan : Plan) (k : Call) (next : Then) (rest : List Stage) → Stays plan k next → Nested plan k rest
    → IsNested plan (after_then next rest)
stays_nested plan k next rest gives nested = go next.back next.push gives
  where
    go : (back : Option ℤ) (push : List Stage) → GivesBack plan k back push → IsNested plan (after_back back push rest)
    go None [] chain = elim chain.0 [ ]
    go None (x ∷ push) chain = let all = nested_chain plan x push k rest chain.1 nested in (chain.0, all.0, all.1)
    go (Some c) push chain = nested_code plan k rest c nested

pub nested_then : (plan : Plan) (k : Call) (next : Then) (rest : List Stage) → Gives plan k next → Nested plan k rest
    → IsNested plan (after_then next rest)
nested_then plan none next rest gives nested = none_nested plan next rest gives nested
nested_then plan k next rest gives nested = stays_nested plan k next rest gives nested

-- an empty place starts with a call that may stand at the bottom
start_bottom : (s : Stage) → IsStart s → IsBottom (call_of s)
start_bottom (stage.Helper (at.Call c)) is = tt
start_bottom (stage.Helper (at.Work d)) is = tt
start_bottom (stage.Helper (at.Timer d)) is = tt
start_bottom _ is = elim is [ ]

start_awake : (s : Stage) → IsStart s → IsAwake s
start_awake (stage.Helper s) is = tt
start_awake (stage.Idle s) is = tt
start_awake (stage.Suspend s) is = tt
start_awake (stage.Resume s) is = tt
start_awake (stage.Control s) is = tt
start_awake (stage.Await s) is = is

start_fits : (plan : Plan) (s : Stage) → IsStart s → Fits plan s
start_fits plan (stage.Helper (at.Call c)) is = tt
start_fits plan (stage.Helper (at.Work d)) is = tt
start_fits plan (stage.Helper (at.Timer d)) is = tt
start_fits plan _ is = elim is [ ]

-- the stage at which an actor stands is nested over what is below it
pub stands_nested : (plan : Plan) (s : Stage) (stack : List Stage) → Stands s stack → IsNested plan stack → IsNested plan (s ∷ drop 1 stack)
stands_nested plan s stack st nested = elim st.either [
  | inl p ↦ rw p.0 (start_awake s p.1, start_fits plan s p.1, start_bottom s p.1)
  | inr is ↦ subst (IsNested plan) is nested
]

-- a place keeps its shape where the stage at which its actor stands gives way
pub nested_goes : (plan : Plan) (s : Stage) (stack : List Stage) (next : Then) → Stands s stack → (Fits plan s → Gives plan (call_of s) next)
    → IsNested plan stack → IsNested plan (after_then next (drop 1 stack))
nested_goes plan s stack next st gives nested =
    let all = stands_nested plan s stack st nested in nested_then plan (call_of s) next (drop 1 stack) (gives all.1) all.2

-- the flags of a call below another
pub odd_one : (d : DevId) → lowering d 1 ≡ lowers d true
unfolding has
odd_one d = refl

pub odd_five : (d : DevId) → lowering d 5 ≡ lowers d true
unfolding has
odd_five d = refl
