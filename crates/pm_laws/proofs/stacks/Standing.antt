-- The stage at which an actor stands: the top of its stack, or what an empty place has to start.
use Rattle.std.proofs.Common.{ℕ, ◌≡◌, ◌+◌, ◌⊎◌, List, [], ◌∷◌, Option, Some, drop, ap, refl, ◌∙◌, arith, inl, inr}
use Rattle.std.specs.List.{sum_by}
use Rattle.std.proofs.lemmas.List.Sums.{sum_by-cons}
use Rattle.pm_base.specs.declared.ActorId.{ActorId}
use Rattle.pm_base.specs.declared.ActorId.TheVariants.{Caller, Work, Timer}
use Rattle.pm_model.specs.declared.plan.Plan.{Plan}
use Rattle.pm_model.specs.declared.stage.HelperStage.TheVariants as at
use Rattle.pm_model.specs.declared.stage.Stage.{Stage}
use Rattle.pm_model.specs.declared.stage.Stage.TheVariants as stage
use Rattle.pm_model.specs.World.{World, place, ready, stage_at, top}
use Rattle.pm_laws.proofs.stacks.Readying.{IsReady, ready_is}

-- what an empty place may start
abbrev pub IsStart : Stage → Type 0
IsStart (stage.Helper (at.Call c)) = Unit {0}
IsStart (stage.Helper (at.Work d)) = Unit {0}
IsStart (stage.Helper (at.Timer d)) = Unit {0}
IsStart _ = ⊥

ready_starts : (plan : Plan) (a : ActorId) (s : Stage) → IsReady plan a s → IsStart s
ready_starts plan (Caller c) s (command, is, at) = rw is tt
ready_starts plan (Work d) s is = rw is tt
ready_starts plan (Timer d) s is = rw is tt

-- either the place is empty and the stage one that starts, or the stage is its top
pub record Stands (s : Stage) (stack : List Stage) : Type 0 where
  pub either : ((stack ≡ []) × IsStart s) ⊎ (stack ≡ s ∷ drop 1 stack)

top_stands : (o : Option Stage) (s : Stage) → (o ≡ Some s → IsStart s) → (stack : List Stage) → top o stack ≡ Some s → Stands s stack
top_stands o s starts [] e = record { either = inl (refl, starts e) }
top_stands o s starts (x ∷ rest) e = let same : x ≡ s = cc in record { either = inr (ap (λ k. k ∷ rest) same) }

pub stands : (plan : Plan) (w : World) (a : ActorId) (s : Stage) → stage_at plan w a ≡ Some s → Stands s (place w a)
stands plan w a s e = top_stands (ready plan w a) s (λ is. ready_starts plan a s (ready_is plan w a s is)) (place w a) e

-- a weight that a stage which starts hasn't
pub stands_sum : (f : Stage → ℕ) (s : Stage) (stack : List Stage) → (IsStart s → f s ≡ 0) → Stands s stack
    → sum_by f stack ≡ f s + sum_by f (drop 1 stack)
stands_sum f s stack light st = elim st.either [
  | inl p ↦ let none = light p.1 in rw p.0 (omega arith)
  | inr is ↦ ap (sum_by f) is ∙ sum_by-cons f s (drop 1 stack)
]
