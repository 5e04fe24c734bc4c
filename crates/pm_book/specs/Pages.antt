-- What a book shows, and what its step answers (this project's own).
use Rattle.std.specs.Prelude.{◌≡◌, ◌+◌, ◌-◌, ◌<◌, ◌≤◌, ◌^◌, ℕ, Bool, true, false, List, ◌∷◌, Option, Some, None, length, max, min, nat_le, nat_lt, unwrap_or, if◌then◌else◌}
use Rattle.pm_base.specs.declared.ActorId.{ActorId}
use Rattle.pm_model.specs.declared.event.Event.{Event}
use Rattle.pm_model.specs.declared.event.Event.TheVariants as event
use Rattle.pm_model.specs.declared.event.Line.{Line}
use Rattle.pm_model.specs.declared.plan.Plan.{Plan}
use Rattle.pm_model.specs.declared.stage.Change.{Change}
use Rattle.pm_model.specs.declared.stage.Move.{Move}
use Rattle.pm_model.specs.declared.stage.Move.TheVariants.{Write, Late, Wait}
use Rattle.pm_model.specs.declared.stage.Stage.{Stage}
use Rattle.pm_model.specs.declared.stage.Then.{Then}
use Rattle.pm_model.specs.Derived.{begun}
use Rattle.pm_model.specs.History.{History}
use Rattle.pm_model.specs.Lawful.{IsLawful, Permits, last_time}
use Rattle.pm_model.specs.Views.{Views}
use Rattle.pm_model.specs.World.{World, move, stage_at, world}
use Rattle.pm_laws.specs.counts.Sums.{one, tally}
use Rattle.pm_laws.specs.counts.Owners.{places}
use Rattle.pm_laws.specs.bounds.Running.{runs_callback}
use Rattle.pm_state.specs.Standing.{IsOf, Standing}
use Rattle.pm_state.specs.Turns.{end_due, running_due}
use Rattle.pm_turns.specs.Turning.{Index, IsIndex}
use Rattle.pm_book.specs.declared.steps.EndStep.{EndStep}
use Rattle.pm_book.specs.declared.steps.EndStep.TheVariants as end
use Rattle.pm_book.specs.declared.steps.Step.{Step}
use Rattle.pm_book.specs.declared.steps.Step.TheVariants as step

-- a plan, the lines of a run of it, the newest first, and how many more can be written without taking memory
pub record Pages : Type 0 where
  pub plan : Plan
  pub lines : List Line
  pub spare : ℕ

-- where the run stands
abbrev pub world_of : Pages → World
world_of p = world p.plan p.lines

-- when the next line is written at the earliest, at this moment by the clock
abbrev pub moment_from : List Line → ℕ → ℕ
moment_from h now = max (last_time h) (min now (2 ^ 62))

-- a list that has all the lines that its plan allows
abbrev pub is_full : Pages → Bool
is_full p = nat_le p.plan.lines (length p.lines)

-- a callback that begins is one of so many devices
abbrev pub BeginsWithin : ℕ → Event → Type 0
BeginsWithin n (event.Begin d k) = d.0 < n
BeginsWithin n _ = Unit {0}

-- the answer to a line that was written: of a callback's begin, which callback of its kind on the device it is
abbrev pub written : Views → Event → Step
written v (event.Begin d k) = step.Begun d k (begun v k d + 1)
written v _ = step.Wrote

-- what the move at a stage lets its actor do; a stage that awaits a call has none, and no actor stands at one
abbrev pub by_move : Views → Option Move → Step
by_move v (Some (Write e c next)) = written v e
by_move v (Some (Late at)) = step.Early at
by_move v (Some (Wait d)) = step.Blocked d
by_move v None = step.Resting

-- while a callback runs, its actor does nothing else
abbrev pub by_running : Option ℕ → Step → Step
by_running (Some at) other = step.Running at
by_running None other = other

-- what an actor does at t that stands at this stage, or at none
abbrev pub by_stage : Plan → Views → ℕ → Option Stage → Step
by_stage plan v t (Some s) = by_running (running_due plan s) (by_move v (move plan v s t))
by_stage plan v t None = step.Resting

-- what a step of an actor answers: a full list first, and then what the actor does
abbrev pub step_answer : Pages → ActorId → ℕ → Step
step_answer p actor now =
    if is_full p then step.AtLimit else by_stage p.plan (world_of p).views (moment_from p.lines now) (stage_at p.plan (world_of p) actor)

-- what the end of a callback answers at t, which is due at this moment
abbrev pub end_by : ℕ → ℕ → EndStep
end_by t due = if nat_lt t due then end.Early due else end.Wrote

-- what the end of an actor's callback answers: a full list first, and then whether it is due
abbrev pub end_answer : Pages → ActorId → ℕ → EndStep
end_answer p actor now =
    if is_full p then end.AtLimit else end_by (moment_from p.lines now) (unwrap_or (end_due p.plan (world_of p) actor) 0)

-- whether a line was written
abbrev pub has_written : Step → Bool
has_written (step.Begun d k nth) = true
has_written step.Wrote = true
has_written _ = false

-- this line more, which took at most one from what can be written without taking memory
pub record Longer (old new : Pages) (line : Line) : Type 0 where
  pub plan : new.plan ≡ old.plan
  pub lines : new.lines ≡ line ∷ old.lines
  pub spare : old.spare ≤ new.spare + 1

-- one line more, by this actor at this moment, which the list permitted
pub record Adds (old new : Pages) (actor : ActorId) (t : ℕ) : Type 0 where
  pub line : Line
  pub added : Longer old new line
  pub permits : Permits old.plan old.lines line
  pub actor_is : line.actor ≡ actor
  pub time_is : line.time ≡ t

-- no line more, and no less that can be written without taking memory
pub record Keeps (old new : Pages) : Type 0 where
  pub plan : new.plan ≡ old.plan
  pub lines : new.lines ≡ old.lines
  pub spare : old.spare ≤ new.spare

-- so many more lines can be written without taking memory, or all that the plan still allows
abbrev pub HasSpare : Pages → ℕ → Type 0
HasSpare p more = min more (p.plan.lines - length p.lines) ≤ p.spare

-- the actor may go on at t at this stage: it stands there, no line is later, and there may be one more
pub record MayGo (plan : Plan) (h : History) (actor : ActorId) (s : Stage) (t : ℕ) : Type 0 where
  pub stands : stage_at plan (world plan h) actor ≡ Some s
  pub later : last_time h ≤ t
  pub in_time : t < 2 ^ 63
  pub room : length h < plan.lines

-- the line may be written at this stage
pub record MayWrite (plan : Plan) (h : History) (s : Stage) (line : Line) (c : Change) (next : Then) : Type 0 where
  pub may : MayGo plan h line.actor s line.time
  pub gives : move plan (world plan h).views s line.time ≡ Some (Write line.event c next)

-- 1 at a stage at which a callback runs
abbrev pub runs_here : Stage → ℕ
runs_here s = one (runs_callback s)

-- how many callbacks run
abbrev pub running : World → ℕ
running w = tally runs_here (places w)

-- the list is lawful, the state and the turns are those after it, there may be as many lines as the plan allows, and for
-- the end line of each callback that runs a place is kept
pub record IsKept (plan : Plan) (state : Standing) (turns : Index) (ends limit : ℕ) (h : List Line) : Type 0 where
  pub lawful : IsLawful plan h
  pub world_is : state.world ≡ world plan h
  pub is_of : IsOf plan state
  pub turns_are : IsIndex plan h turns
  pub in_time : last_time h < 2 ^ 63
  pub limit_is : limit ≡ plan.lines
  pub each : running state.world ≤ ends
