-- Above a stage that carries out the transition of a device stand only calls for devices that stand earlier in the plan.
use Rattle.std.proofs.Common.{ℕ, ◌≡◌, ◌<◌, Bool, true, false, List, [], ◌∷◌, nat_eq, refl, arith, inl, inr}
use Rattle.std.specs.List.{sum_by}
use Rattle.std.proofs.lemmas.Bool.{cases_lt, false≢true}
use Rattle.std.proofs.lemmas.Bool.Decides.{nat_tests}
use Rattle.std.proofs.lemmas.List.Sums.{sum_by-cons}
use Rattle.pm_base.specs.declared.DevId.{DevId}
use Rattle.pm_model.specs.declared.plan.Plan.{Plan}
use Rattle.pm_model.specs.declared.stage.Await.{Await}
use Rattle.pm_model.specs.declared.stage.Await.TheVariants as await
use Rattle.pm_model.specs.declared.stage.ControlStage.TheVariants as control
use Rattle.pm_model.specs.declared.stage.ResumeStage.TheVariants as resume
use Rattle.pm_model.specs.declared.stage.Stage.{Stage}
use Rattle.pm_model.specs.declared.stage.Stage.TheVariants as stage
use Rattle.pm_model.specs.declared.stage.SuspendStage.TheVariants as suspend
use Rattle.pm_model.specs.Counted.{is_same}
use Rattle.pm_model.specs.Derived.{is_moving}
use Rattle.pm_model.specs.Views.{Views}
use Rattle.pm_laws.specs.counts.Sums.{one}
use Rattle.pm_laws.specs.counts.Owners.{owns_suspend, owns_resume}
use Rattle.pm_laws.specs.turns.Blocks.{blocks}
use Rattle.pm_laws.specs.turns.Idles.{runs_idle}
use Rattle.pm_laws.specs.stacks.Shape.{Call, none, own, lowers, raises, call_of, await_call, May, Nested}
use Rattle.pm_laws.proofs.stacks.PlanLaw.{parent_earlier, supplier_earlier}

-- the call is for a device that stands before d
abbrev pub IsEarlier : DevId → Call → Type 0
IsEarlier d none = ⊥
IsEarlier d (own e) = ⊥
IsEarlier d (lowers e odd) = e.0 < d.0
IsEarlier d (raises e f p) = e.0 < d.0

-- devices never rise along a stack
falls : (plan : Plan) (d : DevId) (a : Await) (k : Call) → IsEarlier d (await_call a) → May plan a k → IsEarlier d k
falls plan d (await.SuspendLinks e f) k b (l, s, is, eq) = let it = supplier_earlier plan l e s is in rw eq (omega (arith, it.earlier))
falls plan d (await.SuspendDeferred e f) k b eq = rw eq b
falls plan d (await.SuspendParent e f) k b (has, eq) = let it = parent_earlier plan e has in rw eq (omega (arith, it.earlier))
falls plan d (await.ResumeParent r) k b (has, eq) = let it = parent_earlier plan r.dev has in rw eq (omega (arith, it.earlier))
falls plan d (await.ResumeSupplier r l) k b (s, is, eq) = let it = supplier_earlier plan l r.dev s is in rw eq (omega (arith, it.earlier))
falls plan d (await.ResumeIdle r) k b eq = rw eq b
falls plan d (await.ResumeUnwind r c) k b (l, s, is, eq) = let it = supplier_earlier plan l r.dev s is in rw eq (omega (arith, it.earlier))
falls plan d (await.ResumePut r c) k b (has, eq) = let it = parent_earlier plan r.dev has in rw eq (omega (arith, it.earlier))
falls plan d _ k b m = elim b [ ]

weighs_same : (d e : DevId) → 0 < one (is_same d e) → e.0 ≡ d.0
weighs_same d e some = go (nat_eq e.0 d.0) refl some
  where
    go : (b : Bool) → nat_eq e.0 d.0 ≡ b → 0 < one b → e.0 ≡ d.0
    go true is some = grind (arith, nat_tests)
    go false is some = absurd (omega arith)

-- no stage that blocks carries out a transition, or runs an idle callback
blocked_light : (v : Views) (d : DevId) (s : Stage) → blocks v s ≡ true → (owns_suspend d s ≡ 0) × (owns_resume d s ≡ 0) × (runs_idle d s ≡ 0)
blocked_light v d (stage.Suspend (suspend.Waiting e f)) b = (refl, refl, refl)
blocked_light v d (stage.Resume (resume.Waiting r tried)) b = (refl, refl, refl)
blocked_light v d (stage.Control (control.Disabled e)) b = (refl, refl, refl)
blocked_light v d (stage.Control (control.BarrierWait e c)) b = (refl, refl, refl)
blocked_light v d _ b = absurd (false≢true b)

-- a weight of stages that do a work of d: none of them blocks, and where one awaits a call this is for an earlier device
pub record Carries (plan : Plan) (d : DevId) (f : Stage → ℕ) : Type 0 where
  pub above : (a : Await) (k : Call) → 0 < f (stage.Await a) → May plan a k → IsEarlier d k
  pub light : (v : Views) (s : Stage) → blocks v s ≡ true → f s ≡ 0

pub carries_suspend : (plan : Plan) (d : DevId) → Carries plan d (owns_suspend d)
carries_suspend plan d = record { above = above; light = λ v s b. (blocked_light v d s b).0 }
  where
    above : (a : Await) (k : Call) → 0 < owns_suspend d (stage.Await a) → May plan a k → IsEarlier d k
    above (await.SuspendLinks e f) k some (l, s, is, eq) = let it = supplier_earlier plan l e s is in rw eq (omega (arith, it.earlier, weighs_same d e some))
    above _ k some m = absurd (omega arith)

pub carries_resume : (plan : Plan) (d : DevId) → Carries plan d (owns_resume d)
carries_resume plan d = record { above = above; light = λ v s b. (blocked_light v d s b).1 }
  where
    above : (a : Await) (k : Call) → 0 < owns_resume d (stage.Await a) → May plan a k → IsEarlier d k
    above (await.ResumeSupplier r l) k some (s, is, eq) = let it = supplier_earlier plan l r.dev s is in rw eq (omega (arith, it.earlier, weighs_same d r.dev some))
    above (await.ResumeUnwind r c) k some (l, s, is, eq) = let it = supplier_earlier plan l r.dev s is in rw eq (omega (arith, it.earlier, weighs_same d r.dev some))
    above (await.ActiveSupplier e l) k some (s, is, eq) = let it = supplier_earlier plan l e s is in rw eq (omega (arith, it.earlier, weighs_same d e some))
    above (await.ActiveUnwind e c) k some (l, s, is, eq) = let it = supplier_earlier plan l e s is in rw eq (omega (arith, it.earlier, weighs_same d e some))
    above _ k some m = absurd (omega arith)

pub carries_idle : (plan : Plan) (d : DevId) → Carries plan d (runs_idle d)
carries_idle plan d = record { above = λ a k some m. absurd (omega arith); light = λ v s b. (blocked_light v d s b).2 }

-- so above such a stage stand only calls for earlier devices
pub calls_earlier : (plan : Plan) (d : DevId) (f : Stage → ℕ) → Carries plan d f → (k : Call) (rest : List Stage) → Nested plan k rest → 0 < sum_by f rest
    → IsEarlier d k
calls_earlier plan d f carries k [] n some = absurd (omega arith)
calls_earlier plan d f carries k (stage.Await a ∷ rest) n some = elim (cases_lt 0 (f (stage.Await a))) [
  | inl lt ↦ carries.above a k lt n.0
  | inr le ↦ falls plan d a k (calls_earlier plan d f carries (await_call a) rest n.2 (omega (arith, sum_by-cons f (stage.Await a) rest))) n.0
]
calls_earlier plan d f carries k (s ∷ rest) n some = elim n.0 [ ]

-- a stage of a call for an earlier device that blocks waits for that device to stand still
pub record WaitsEarlier (v : Views) (d : DevId) : Type 0 where
  pub dev : DevId
  pub earlier : dev.0 < d.0
  pub moves : is_moving v dev ≡ true

pub waits_earlier : (v : Views) (d : DevId) (s : Stage) → blocks v s ≡ true → IsEarlier d (call_of s) → WaitsEarlier v d
waits_earlier v d (stage.Suspend (suspend.Waiting e f)) b earlier = record { dev = e; earlier = earlier; moves = b }
waits_earlier v d (stage.Resume (resume.Waiting r tried)) b earlier = record { dev = r.dev; earlier = earlier; moves = b }
waits_earlier v d (stage.Control (control.Disabled e)) b earlier = elim earlier [ ]
waits_earlier v d (stage.Control (control.BarrierWait e c)) b earlier = elim earlier [ ]
waits_earlier v d _ b earlier = absurd (false≢true b)
