-- What the end of a callback answers.
use Rattle.std.proofs.Common.{◌≡◌, ◌≤◌, ℕ, true, false, Option, Some, None, length, nat_le, nat_lt, unwrap_or, if◌then◌else◌, ap, arith, subst, sym}
use Rattle.std.proofs.lemmas.Bool.{lt-ltb}
use Rattle.std.proofs.lemmas.Grind.{common_steps}
use Rattle.pm_base.specs.declared.ActorId.{ActorId}
use Rattle.pm_base.specs.declared.DevId.{DevId}
use Rattle.pm_model.specs.declared.event.Event.{Event}
use Rattle.pm_model.specs.declared.plan.Plan.{Plan}
use Rattle.pm_model.specs.declared.stage.Change.{Change}
use Rattle.pm_model.specs.declared.stage.Move.{Move}
use Rattle.pm_model.specs.declared.stage.Move.TheVariants.{Write, Late, Wait}
use Rattle.pm_model.specs.declared.stage.Stage.{Stage}
use Rattle.pm_model.specs.declared.stage.Then.{Then}
use Rattle.pm_model.specs.World.{World, move, stage_at}
use Rattle.pm_state.specs.Turns.{is_running, running_due, runs_at}
use Rattle.pm_book.specs.declared.steps.EndStep.TheVariants as end
use Rattle.pm_book.specs.Pages.{Pages, end_answer, end_by, moment_from, world_of}
use Rattle.pm_book.proofs.RunningLemmas.{IsEnding, stage_ends}

-- the move at the stage of a callback that an actor began
pub move_ends : (plan : Plan) (w : World) (actor : ActorId) (s : Stage) (t : ℕ) (m : Option Move) → stage_at plan w actor ≡ Some s → is_running plan w actor ≡ true
    → m ≡ move plan w.views s t → IsEnding t (running_due plan s) m
move_ends plan w actor s t m stands runs is =
    let here : runs_at plan (Some s) ≡ true = subst (λ o. runs_at plan o ≡ true) stands runs in
    subst (IsEnding t (running_due plan s)) (sym is) (stage_ends plan w.views s t here)

early_by : (t at : ℕ) (due : Option ℕ) → IsEnding t due (Some (Late at)) → end.Early at ≡ end_by t (unwrap_or due 0)
early_by t at None is = absurd is
early_by t at (Some a) is = subst (λ n. end.Early n ≡ end_by t a) is.0 (ap (λ b. if b then end.Early a else end.Wrote) (sym (lt-ltb t a is.1)))

not_below : (a b : ℕ) → b ≤ a → nat_lt a b ≡ false
not_below a b h = grind (arith, common_steps)

written_by : (t : ℕ) (e : Event) (c : Change) (next : Then) (due : Option ℕ) → IsEnding t due (Some (Write e c next)) → end.Wrote ≡ end_by t (unwrap_or due 0)
written_by t e c next None is = absurd is
written_by t e c next (Some at) is = ap (λ b. if b then end.Early at else end.Wrote) (sym (not_below t at is))

pub no_wait : (t : ℕ) (d : DevId) (due : Option ℕ) → IsEnding t due (Some (Wait d)) → ⊥
no_wait t d None is = is
no_wait t d (Some at) is = is

pub early_answer : (p : Pages) (actor : ActorId) (now t at : ℕ) (s : Stage) → nat_le p.plan.lines (length p.lines) ≡ false → t ≡ moment_from p.lines now
    → stage_at p.plan (world_of p) actor ≡ Some s → is_running p.plan (world_of p) actor ≡ true → Some (Late at) ≡ move p.plan (world_of p).views s t → end.Early at ≡ end_answer p actor now
early_answer p actor now t at s free time stands runs is =
    rw (free, stands, ← time) (early_by t at (running_due p.plan s) (move_ends p.plan (world_of p) actor s t (Some (Late at)) stands runs is))

pub written_answer : (p : Pages) (actor : ActorId) (now t : ℕ) (e : Event) (c : Change) (next : Then) (s : Stage) → nat_le p.plan.lines (length p.lines) ≡ false → t ≡ moment_from p.lines now
    → stage_at p.plan (world_of p) actor ≡ Some s → is_running p.plan (world_of p) actor ≡ true → Some (Write e c next) ≡ move p.plan (world_of p).views s t → end.Wrote ≡ end_answer p actor now
written_answer p actor now t e c next s free time stands runs is =
    rw (free, stands, ← time) (written_by t e c next (running_due p.plan s) (move_ends p.plan (world_of p) actor s t (Some (Write e c next)) stands runs is))

-- an actor whose callback runs stands at a stage
pub none_runs : (plan : Plan) (w : World) (actor : ActorId) → stage_at plan w actor ≡ None → is_running plan w actor ≡ true → ⊥
none_runs plan w actor none runs = let k : false ≡ true = subst (λ o. runs_at plan o ≡ true) none runs in cc k
