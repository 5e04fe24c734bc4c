-- From when an actor may write, by where it stands.
use Rattle.std.proofs.Common.{◌≡◌, ◌∙◌, Bool, true, false, List, [], ◌∷◌, Option, Some, None, option_map, if◌then◌else◌, ap, refl}
use Rattle.std.specs.Option.{option_and_then, option_map_or}
use Rattle.pm_base.specs.declared.ActorId.{ActorId}
use Rattle.pm_base.specs.declared.ActorId.TheVariants.{Caller, Work, Timer}
use Rattle.pm_base.specs.declared.Armed.{Armed}
use Rattle.pm_model.specs.declared.event.Command.{Command}
use Rattle.pm_model.specs.declared.plan.Plan.{Plan}
use Rattle.pm_model.specs.declared.stage.HelperStage.TheVariants as at
use Rattle.pm_model.specs.declared.stage.Stage.{Stage}
use Rattle.pm_model.specs.declared.stage.Stage.TheVariants as stage
use Rattle.pm_model.specs.Views.{pending_of, timer}
use Rattle.pm_model.specs.WellFormed.{is_well_formed}
use Rattle.pm_model.specs.World.{World, due, next_command, place, ready, stage_at, top}
use Rattle.pm_state.proofs.PlaceLemmas.{well_formed_of}
use Rattle.pm_state.specs.Standing.{StandsWell, can_go_on}
use Rattle.pm_laws.specs.turns.Wakes.{wakes, wakes_at}

-- an actor stands at its open stage, and else at what it has to start
top_stands : (otherwise : Option Stage) (s : Stage) (stages : List Stage) → Some s ≡ top None stages → Some s ≡ top otherwise stages
top_stands otherwise s [] is = cc is
top_stands otherwise s (x ∷ rest) is = is

none_stands : (otherwise : Option Stage) (stages : List Stage) → None ≡ top None stages → otherwise ≡ top otherwise stages
none_stands otherwise [] is = refl
none_stands otherwise (x ∷ rest) is = cc is

stands_at : (plan : Plan) (w : World) (a : ActorId) (s : Stage) → Some s ≡ top None (place w a) → Some s ≡ stage_at plan w a
stands_at plan w a s is = top_stands (ready plan w a) s (place w a) is

pub well_at : (plan : Plan) (w : World) (a : ActorId) (s : Stage) → StandsWell plan w a → Some s ≡ top None (place w a) → is_well_formed plan w.views s ≡ true
well_at plan w a s stands is = well_formed_of plan w.views s (ap (λ o. option_map_or (can_go_on plan w.views) o true) (stands_at plan w a s is) ∙ stands)

pub stage_wakes : (plan : Plan) (w : World) (a : ActorId) (s : Stage) → Some s ≡ top None (place w a) → wakes_at plan w.views s ≡ wakes plan w a
stage_wakes plan w a s is = ap (option_and_then (wakes_at plan w.views)) (stands_at plan w a s is)

-- what an actor has to start blocks nowhere
ready_wakes : (plan : Plan) (w : World) (a : ActorId) → option_map (due plan w.views) (ready plan w a) ≡ option_and_then (wakes_at plan w.views) (ready plan w a)
ready_wakes plan w (Caller c) = go (next_command plan w c)
  where
    go : (o : Option Command) → option_map (due plan w.views) (option_map (λ command. stage.Helper (at.Call command)) o) ≡ option_and_then (wakes_at plan w.views) (option_map (λ command. stage.Helper (at.Call command)) o)
    go None = refl
    go (Some command) = refl
ready_wakes plan w (Work d) = go (pending_of w.views (record { 0 = d })).queued
  where
    go : (b : Bool) → option_map (due plan w.views) (if b then Some (stage.Helper (at.Work (record { 0 = d }))) else None) ≡ option_and_then (wakes_at plan w.views) (if b then Some (stage.Helper (at.Work (record { 0 = d }))) else None)
    go true = refl
    go false = refl
ready_wakes plan w (Timer d) = go (timer w.views (record { 0 = d }))
  where
    go : (o : Option Armed) → option_map (due plan w.views) (option_map (λ armed. stage.Helper (at.Timer (record { 0 = d }))) o) ≡ option_and_then (wakes_at plan w.views) (option_map (λ armed. stage.Helper (at.Timer (record { 0 = d }))) o)
    go None = refl
    go (Some armed) = refl

pub start_wakes : (plan : Plan) (w : World) (a : ActorId) → None ≡ top None (place w a) → option_map (due plan w.views) (ready plan w a) ≡ wakes plan w a
start_wakes plan w a is = ready_wakes plan w a ∙ ap (option_and_then (wakes_at plan w.views)) (none_stands (ready plan w a) (place w a) is)
