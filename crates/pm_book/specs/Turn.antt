-- Whose turn it is on one thread (this project's own).
use Rattle.std.specs.Prelude.{◌≡◌, ◌+◌, ◌*◌, ◌-◌, ◌≤◌, ◌^◌, ℕ, Bool, false, true, Some, length}
use Rattle.pm_base.specs.declared.ActorId.{ActorId}
use Rattle.pm_model.specs.declared.event.Line.{Line}
use Rattle.pm_model.specs.declared.plan.Plan.{Plan}
use Rattle.pm_model.specs.History.{History}
use Rattle.pm_model.specs.Lawful.{is_finished, last_time}
use Rattle.pm_model.specs.Serial.{next_line, next_turn}
use Rattle.pm_state.specs.Standing.{IsActor}
use Rattle.pm_book.specs.declared.steps.Step.{Step}
use Rattle.pm_book.specs.declared.steps.Step.TheVariants as step
use Rattle.pm_book.specs.Pages.{Longer, Pages, world_of}

-- there is time for every line that the plan still allows: on one thread each comes at most 1,000,000 milliseconds after
-- the one before it
abbrev pub HasTime : Plan → History → Type 0
HasTime plan h = last_time h + 1000000 * (plan.lines - length h) ≤ 2 ^ 62

-- it is this actor's turn at this moment, which comes soon after the last line, and the run isn't finished
pub record IsTurn (p : Pages) (actor : ActorId) (now : ℕ) : Type 0 where
  pub turn : next_turn p.plan p.lines ≡ Some (actor, now)
  pub in_range : IsActor p.plan actor
  pub soon : now ≤ last_time p.lines + 1000000
  pub unfinished : is_finished p.plan (world_of p) ≡ false

-- the line that comes next on one thread is added
pub record Writes (old new : Pages) : Type 0 where
  pub line : Line
  pub next : next_line old.plan old.lines ≡ Some line
  pub soon : line.time ≤ last_time old.lines + 1000000
  pub added : Longer old new line

-- a step that wrote nothing, since the actor's callback runs
abbrev pub says_running : Step → Bool
says_running (step.Running at) = true
says_running _ = false
