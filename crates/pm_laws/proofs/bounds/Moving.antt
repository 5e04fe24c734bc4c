-- A stage at which an actor stands has a move; and a callback's end finds its actor's place open, and leaves at most one stage
-- where the callback's was.
use Rattle.std.proofs.Common.{ℕ, ◌≡◌, ◌<◌, ◌≤◌, true, List, [], ◌∷◌, Some, is_some, length, refl, subst, sym, arith, inl, inr}
use Rattle.std.proofs.lemmas.Bool.{false≢true}
use Rattle.pm_base.specs.declared.ActorId.{ActorId}
use Rattle.pm_base.specs.declared.DevId.{DevId}
use Rattle.pm_model.specs.declared.event.Line.{Line}
use Rattle.pm_model.specs.declared.plan.Plan.{Plan}
use Rattle.pm_model.specs.declared.stage.IdleStage.TheVariants as idle
use Rattle.pm_model.specs.declared.stage.ResumeCall.{ResumeCall}
use Rattle.pm_model.specs.declared.stage.ResumeStage.TheVariants as resume
use Rattle.pm_model.specs.declared.stage.Stage.{Stage}
use Rattle.pm_model.specs.declared.stage.Stage.TheVariants as stage
use Rattle.pm_model.specs.declared.stage.SuspendStage.TheVariants as suspend
use Rattle.pm_model.specs.IdleTable.{idle_ends}
use Rattle.pm_model.specs.Lawful.{IsLawful, Permits}
use Rattle.pm_model.specs.ResumeTable.{resume_ends}
use Rattle.pm_model.specs.Row.{Row}
use Rattle.pm_model.specs.SuspendTable.{suspend_ends}
use Rattle.pm_model.specs.Views.{Views}
use Rattle.pm_model.specs.World.{World, move, place, row, stage_at, world}
use Rattle.pm_laws.specs.stacks.Shape.{IsAwake}
use Rattle.pm_laws.proofs.stacks.Nesting.{stands_nested}
use Rattle.pm_laws.proofs.stacks.Obeying.{Duty, Obeys, both, both_next, ok}
use Rattle.pm_laws.proofs.stacks.Stacks.{obeys_same, stacks_nest}
use Rattle.pm_laws.proofs.stacks.Standing.{IsStart, stands}
use Rattle.pm_laws.specs.bounds.Running.{runs_callback}
use Rattle.pm_laws.proofs.bounds.Said.{row_is}

moves : (plan : Plan) (v : Views) (s : Stage) (t : ℕ) → IsAwake s → is_some (move plan v s t) ≡ true
moves plan v (stage.Idle s) t awake = refl
moves plan v (stage.Suspend s) t awake = refl
moves plan v (stage.Resume s) t awake = refl
moves plan v (stage.Helper s) t awake = refl
moves plan v (stage.Control s) t awake = refl
moves plan v (stage.Await s) t awake = elim awake [ ]

pub stands_moves : (plan : Plan) (h : List Line) (a : ActorId) (s : Stage) (t : ℕ) → IsLawful plan h → stage_at plan (world plan h) a ≡ Some s
    → is_some (move plan (world plan h).views s t) ≡ true
stands_moves plan h a s t lawful at =
    let w = world plan h in moves plan w.views s t (stands_nested plan s (place w a) (stands plan w a s at) (stacks_nest plan h lawful a)).0

-- what a callback's end leaves
abbrev LeavesOne : Duty
LeavesOne e c next = length next.push ≤ 1

one_stage : (s : Stage) → length (s ∷ []) ≤ 1
one_stage s = omega arith

idle_end : (plan : Plan) (v : Views) (d : DevId) (f t : ℕ) → Obeys LeavesOne (idle_ends plan v d f t)
unfolding idle_ends
idle_end plan v d f t = ok (omega arith)

suspend_end : (plan : Plan) (v : Views) (d : DevId) (f t : ℕ) → Obeys LeavesOne (suspend_ends plan v d f t)
unfolding suspend_ends
suspend_end plan v d f t = search (both_next, ok, one_stage) depth 12

resume_end : (plan : Plan) (v : Views) (r : ResumeCall) → Obeys LeavesOne (resume_ends plan v r)
unfolding resume_ends
resume_end plan v r = search (both, ok, one_stage) depth 12

end_leaves : (plan : Plan) (v : Views) (t : ℕ) (s : Stage) (r : Row) → runs_callback s ≡ true → row plan v s t ≡ Some r → Obeys LeavesOne r
end_leaves plan v t (stage.Idle (idle.Running d f since)) r runs e = obeys_same LeavesOne _ r e (idle_end plan v d f t)
end_leaves plan v t (stage.Suspend (suspend.Running d f since)) r runs e = obeys_same LeavesOne _ r e (suspend_end plan v d f t)
end_leaves plan v t (stage.Resume (resume.Running call since)) r runs e = obeys_same LeavesOne _ r e (resume_end plan v call)
end_leaves plan v t _ r runs e = absurd (false≢true runs)

pub ends_level : (plan : Plan) (h : List Line) (line : Line) → (p : Permits plan h line) → runs_callback p.stage ≡ true → length p.next.push ≤ 1
ends_level plan h line p runs = (end_leaves plan (world plan h).views line.time p.stage _ runs (row_is plan h line p)).paid

-- an empty place starts no callback's end
start_runs : (s : Stage) → IsStart s → runs_callback s ≡ true → ⊥
start_runs (stage.Helper s) is runs = absurd (false≢true runs)
start_runs _ is runs = elim is [ ]

pub runs_open : (plan : Plan) (w : World) (a : ActorId) (s : Stage) → stage_at plan w a ≡ Some s → runs_callback s ≡ true → 0 < length (place w a)
runs_open plan w a s at runs = let st = stands plan w a s at in elim st.either [
  | inl p ↦ absurd (start_runs s p.1 runs)
  | inr is ↦ subst (λ stack. 0 < length stack) (sym is) (omega arith)
]
