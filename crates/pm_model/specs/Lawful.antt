-- Which lists of lines are runs of a plan, and which runs are finished (this project's own).
use Rattle.std.specs.Prelude.{ℕ, ◌≡◌, ◌<◌, ◌≤◌, Bool, true, not, ◌&&◌, List, [], ◌∷◌, Some, length, nat_le, is_none}
use Rattle.std.specs.List.{enumerate_from, list_all}
use Rattle.pm_model.specs.declared.event.Line.{Line}
use Rattle.pm_model.specs.declared.plan.Plan.{Plan}
use Rattle.pm_model.specs.declared.stage.Change.{Change}
use Rattle.pm_model.specs.declared.stage.Move.TheVariants.{Write}
use Rattle.pm_model.specs.declared.stage.Stage.{Stage}
use Rattle.pm_model.specs.declared.stage.Then.{Then}
use Rattle.pm_model.specs.History.{History}
use Rattle.pm_model.specs.World.{World, called_by, move, stage_at, world}

abbrev pub last_time : History → ℕ
last_time [] = 0
last_time (line ∷ h) = line.time

-- the line may come next: at the stage where its actor stands the call table gives exactly its event, and neither the
-- last line nor the moment at which it is due is later
pub record Permits (plan : Plan) (h : History) (line : Line) : Type 0 where
  pub stage : Stage
  pub stands : stage_at plan (world plan h) line.actor ≡ Some stage
  pub change : Change
  pub next : Then
  pub gives : move plan (world plan h).views stage line.time ≡ Some (Write line.event change next)
  pub in_time : last_time h ≤ line.time

-- each line may come after those before it, and there are no more lines than the plan allows
abbrev pub IsLawful : Plan → History → Type 0
IsLawful plan [] = Unit {0}
IsLawful plan (line ∷ h) = Permits plan h line × (length h < plan.lines) × IsLawful plan h

-- no stage is open
abbrev pub is_empty_place : List Stage → Bool
is_empty_place [] = true
is_empty_place (s ∷ rest) = not true

-- every script has ended, every place is empty, no device is queued and no timer is armed
abbrev pub is_finished : Plan → World → Bool
is_finished plan w =
    list_all (λ p. nat_le (length p.1.script) (called_by w p.0)) (enumerate_from 0 plan.callers)
    && list_all is_empty_place w.caller_places && list_all is_empty_place w.work_places && list_all is_empty_place w.timer_places
    && list_all (λ pending. not pending.queued) w.views.pending && list_all is_none w.views.timers

abbrev pub IsFinished : Plan → History → Type 0
IsFinished plan h = is_finished plan (world plan h) ≡ true
