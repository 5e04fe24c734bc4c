-- What an empty place has to start: a caller's next command, the item of a work item's device, or a timer's.
use Rattle.std.proofs.Common.{ℕ, ◌≡◌, Bool, true, false, [], Option, Some, None, slice_get, if◌then◌else◌, refl, sym, subst}
use Rattle.std.specs.Option.{option_and_then, option_map}
use Rattle.pm_base.specs.declared.ActorId.{ActorId}
use Rattle.pm_base.specs.declared.ActorId.TheVariants.{Caller, Work, Timer}
use Rattle.pm_base.specs.declared.Armed.{Armed}
use Rattle.pm_model.specs.declared.event.Command.{Command}
use Rattle.pm_model.specs.declared.plan.Plan.{Plan}
use Rattle.pm_model.specs.declared.rows.CallerRow.{CallerRow}
use Rattle.pm_model.specs.declared.stage.HelperStage.TheVariants as at
use Rattle.pm_model.specs.declared.stage.Stage.{Stage}
use Rattle.pm_model.specs.declared.stage.Stage.TheVariants as stage
use Rattle.pm_model.specs.Views.{pending_of, timer}
use Rattle.pm_model.specs.World.{World, called_by, next_command, place, ready, stage_at, top}

-- a command of a caller's script
pub record IsScripted (plan : Plan) (c : ℕ) (command : Command) : Type 0 where
  pub caller : CallerRow
  pub at : ℕ
  pub calls : slice_get plan.callers c ≡ Some caller
  pub is : slice_get caller.script at ≡ Some command

-- what an actor may start
abbrev pub IsReady : Plan → ActorId → Stage → Type 0
IsReady plan (Caller c) s = (command : Command) × (s ≡ stage.Helper (at.Call command)) × IsScripted plan c command
IsReady plan (Work d) s = s ≡ stage.Helper (at.Work (record { 0 = d }))
IsReady plan (Timer d) s = s ≡ stage.Helper (at.Timer (record { 0 = d }))

scripted : (plan : Plan) (w : World) (c : ℕ) (command : Command) → next_command plan w c ≡ Some command → IsScripted plan c command
scripted plan w c command e = go (slice_get plan.callers c) refl e
  where
    go : (o : Option CallerRow) → slice_get plan.callers c ≡ o → option_and_then (λ caller. slice_get caller.script (called_by w c)) o ≡ Some command
        → IsScripted plan c command
    go None is e = cc
    go (Some caller) is e = record { caller = caller; at = called_by w c; calls = is; is = e }

pub ready_is : (plan : Plan) (w : World) (a : ActorId) (s : Stage) → ready plan w a ≡ Some s → IsReady plan a s
ready_is plan w (Caller c) s e = go (next_command plan w c) refl e
  where
    go : (o : Option Command) → next_command plan w c ≡ o → option_map (λ command. stage.Helper (at.Call command)) o ≡ Some s → IsReady plan (Caller c) s
    go None is e = cc
    go (Some command) is e = let same : stage.Helper (at.Call command) ≡ s = cc in (command, sym same, scripted plan w c command is)
ready_is plan w (Work d) s e = go (pending_of w.views (record { 0 = d })).queued e
  where
    go : (b : Bool) → (if b then Some (stage.Helper (at.Work (record { 0 = d }))) else None) ≡ Some s → s ≡ stage.Helper (at.Work (record { 0 = d }))
    go true e = cc
    go false e = cc
ready_is plan w (Timer d) s e = go (timer w.views (record { 0 = d })) e
  where
    go : (o : Option Armed) → option_map (λ armed. stage.Helper (at.Timer (record { 0 = d }))) o ≡ Some s → s ≡ stage.Helper (at.Timer (record { 0 = d }))
    go None e = cc
    go (Some armed) e = cc

-- where an actor's place is empty, it stands at what it may start
pub stands_ready : (plan : Plan) (w : World) (a : ActorId) (s : Stage) → stage_at plan w a ≡ Some s → place w a ≡ [] → IsReady plan a s
stands_ready plan w a s e empty = ready_is plan w a s (subst (λ stack. top (ready plan w a) stack ≡ Some s) empty e)
