-- When an actor may write, by the moment from which it may.
use Rattle.std.proofs.Common.{ℕ, ◌≡◌, Bool, true, false, not, Option, Some, None, nat_lt, nat_le, if◌then◌else◌, refl, arith}
use Rattle.std.specs.Option.{option_and_then, option_map_or}
use Rattle.std.proofs.lemmas.Bool.{false≢true}
use Rattle.std.proofs.lemmas.Bool.Decides.{nat_tests}
use Rattle.pm_base.specs.declared.ActorId.{ActorId}
use Rattle.pm_model.specs.declared.plan.Plan.{Plan}
use Rattle.pm_model.specs.declared.stage.ControlStage.TheVariants as control
use Rattle.pm_model.specs.declared.stage.Move.{Move}
use Rattle.pm_model.specs.declared.stage.ResumeStage.TheVariants as resume
use Rattle.pm_model.specs.declared.stage.Stage.{Stage}
use Rattle.pm_model.specs.declared.stage.Stage.TheVariants as stage
use Rattle.pm_model.specs.declared.stage.SuspendStage.TheVariants as suspend
use Rattle.pm_model.specs.ControlTable.{control_row}
use Rattle.pm_model.specs.HelperTable.{helper_row}
use Rattle.pm_model.specs.IdleTable.{idle_row}
use Rattle.pm_model.specs.ResumeTable.{resume_row}
use Rattle.pm_model.specs.Row.{Row, writes, waits, timed, move_of}
use Rattle.pm_model.specs.Serial.{move_at, writes_line, late_moment}
use Rattle.pm_model.specs.SuspendTable.{suspend_row}
use Rattle.pm_model.specs.Views.{Views}
use Rattle.pm_model.specs.World.{World, due, move, stage_at}
use Rattle.pm_laws.specs.turns.Blocks.{blocks}
use Rattle.pm_laws.proofs.turns.Acting.{waits_told}
use Rattle.pm_laws.specs.turns.Wakes.{after, is_within, wakes, wakes_at}

-- what may be done at t writes a line from a moment on, and is late till then
abbrev pub IsTimed : ℕ → Option Move → Option ℕ → Type 0
IsTimed t moves wake = (option_map_or writes_line moves false ≡ is_within t wake) × (option_and_then late_moment moves ≡ after t wake)

-- a stage that blocks is due at once
prompt : (plan : Plan) (v : Views) (s : Stage) → blocks v s ≡ true → due plan v s ≡ 0
prompt plan v (stage.Suspend (suspend.Waiting d f)) b = refl
prompt plan v (stage.Resume (resume.Waiting r tried)) b = refl
prompt plan v (stage.Control (control.Disabled d)) b = refl
prompt plan v (stage.Control (control.BarrierWait d c)) b = refl
prompt plan v _ b = absurd (false≢true b)

row_timed : (at t : ℕ) (blocked : Bool) (r : Row) → writes_line (move_of r) ≡ not blocked → (blocked ≡ true → at ≡ 0)
    → IsTimed t (Some (timed at t r)) (if blocked then None else Some at)
row_timed at t true (writes e change next) told none = cc
row_timed at t false (waits d) told none = cc
row_timed at t true (waits d) told none = let at_once = none refl in let early : nat_lt t at ≡ false = grind (arith, nat_tests) in rw early (refl, refl)
row_timed at t false (writes e change next) told none = go (nat_lt t at) refl
  where
    go : (b : Bool) → nat_lt t at ≡ b → IsTimed t (Some (timed at t (writes e change next))) (Some at)
    go true early = let later : nat_le at t ≡ false = grind (arith, nat_tests) in rw (early, later) (refl, refl)
    go false early = let come : nat_le at t ≡ true = grind (arith, nat_tests) in rw (early, come) (refl, refl)

stage_timed : (plan : Plan) (v : Views) (t : ℕ) (s : Stage) → IsTimed t (move plan v s t) (wakes_at plan v s)
stage_timed plan v t (stage.Idle s) =
    row_timed (due plan v (stage.Idle s)) t false (idle_row plan v s t) (waits_told plan v t (stage.Idle s) _ refl) (prompt plan v (stage.Idle s))
stage_timed plan v t (stage.Suspend s) =
    row_timed (due plan v (stage.Suspend s)) t (blocks v (stage.Suspend s)) (suspend_row plan v s t) (waits_told plan v t (stage.Suspend s) _ refl) (prompt plan v (stage.Suspend s))
stage_timed plan v t (stage.Resume s) =
    row_timed (due plan v (stage.Resume s)) t (blocks v (stage.Resume s)) (resume_row plan v s t) (waits_told plan v t (stage.Resume s) _ refl) (prompt plan v (stage.Resume s))
stage_timed plan v t (stage.Helper s) =
    row_timed (due plan v (stage.Helper s)) t false (helper_row plan v s t) (waits_told plan v t (stage.Helper s) _ refl) (prompt plan v (stage.Helper s))
stage_timed plan v t (stage.Control s) =
    row_timed (due plan v (stage.Control s)) t (blocks v (stage.Control s)) (control_row plan v s t) (waits_told plan v t (stage.Control s) _ refl) (prompt plan v (stage.Control s))
stage_timed plan v t (stage.Await a) = (refl, refl)

pub actor_timed : (plan : Plan) (w : World) (t : ℕ) (a : ActorId) → IsTimed t (move_at plan w t a) (wakes plan w a)
actor_timed plan w t a = go (stage_at plan w a)
  where
    go : (o : Option Stage) → IsTimed t (option_and_then (λ s. move plan w.views s t) o) (option_and_then (wakes_at plan w.views) o)
    go None = (refl, refl)
    go (Some s) = stage_timed plan w.views t s
