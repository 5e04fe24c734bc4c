-- Where a schedule of a plan's lines stands: what decides how it may go on (this project's own).
use Rattle.std.specs.Prelude.{ℕ, ℤ, ◌≡◌, ◌≢◌, ◌≤◌, ◌<◌, ◌⊎◌, Bool, true, false, not, ◌&&◌, ◌||◌, List, ◌++◌, Option, Some, None, map, nat_lt, if◌then◌else◌}
use Rattle.std.specs.List.{Contains, enumerate_from, filter_map, list_any}
use Rattle.std.specs.Option.{option_and_then, option_map_or}
use Rattle.pm_base.specs.declared.ActorId.{ActorId}
use Rattle.pm_model.specs.declared.event.Event.{Event}
use Rattle.pm_model.specs.declared.event.Event.TheVariants as event
use Rattle.pm_model.specs.declared.event.Line.{Line}
use Rattle.pm_model.specs.declared.plan.Plan.{Plan}
use Rattle.pm_model.specs.declared.stage.Change.{Change}
use Rattle.pm_model.specs.declared.stage.Move.TheVariants.{Write}
use Rattle.pm_model.specs.declared.stage.Stage.{Stage}
use Rattle.pm_model.specs.declared.stage.Stage.TheVariants as stage
use Rattle.pm_model.specs.declared.stage.SuspendStage.TheVariants as suspend
use Rattle.pm_model.specs.declared.stage.Then.{Then}
use Rattle.pm_model.specs.Derived.{expiry}
use Rattle.pm_model.specs.Promises.{is_actor}
use Rattle.pm_model.specs.Serial.{callers_and_works, late_moment, least, may_write, move_at, timer_actors}
use Rattle.pm_model.specs.Views.{Views}
use Rattle.pm_model.specs.World.{World, after_line, move, row_at, stage_at, start}
use Rattle.pm_explore.specs.declared.schedule.Pace.{Pace}
use Rattle.pm_explore.specs.declared.schedule.Pace.TheVariants.{Late, Eager}

-- where the run stands, when the last line was written and by whom, and the code that it returned to a caller
pub record Snapshot : Type 0 where
  pub world : World
  pub time : ℕ
  pub last : Option ActorId
  pub code : Option ℤ

-- before any line
abbrev pub start_snapshot : Plan → Snapshot
start_snapshot plan = record { world = start plan; time = 0; last = None; code = None }

abbrev pub code_of : Event → Option ℤ
code_of (event.Ret helper d code) = Some code
code_of _ = None

-- after this line
abbrev pub after : Plan → Snapshot → Line → Snapshot
after plan s line = record {
  world = after_line plan s.world line (row_at plan s.world line.actor line.time);
  time = line.time;
  last = Some line.actor;
  code = code_of line.event;
}

-- the callers, the work items and the timers, each in plan order
abbrev pub all_actors : Plan → List ActorId
all_actors plan = callers_and_works plan ++ timer_actors plan

-- somebody may write now
abbrev pub anyone_may : Plan → Snapshot → Bool
anyone_may plan s = list_any (may_write plan s.world s.time) (all_actors plan)

-- the moment that an actor's line only awaits
abbrev pub due_moment : Plan → Snapshot → ActorId → Option ℕ
due_moment plan s actor = option_and_then late_moment (move_at plan s.world s.time actor)

abbrev pub due_moments : Plan → Snapshot → List ℕ
due_moments plan s = filter_map (due_moment plan s) (all_actors plan)

-- when the next line comes at an eager pace: now if anybody may write now, and else at the least moment that a line awaits
abbrev pub prompt_time : Plan → Snapshot → Option ℕ
prompt_time plan s = if anyone_may plan s then Some s.time else least (due_moments plan s)

-- the expiry that the tests of a suspend compare with the time
abbrev pub expiry_at : Views → Stage → Option ℕ
expiry_at v (stage.Suspend (suspend.Verdict d f)) = expiry v d
expiry_at v (stage.Suspend (suspend.Waiting d f)) = expiry v d
expiry_at v _ = None

-- when each device was last marked as busy
abbrev pub busy_marks : World → List ℕ
busy_marks w = map (λ d. d.last_busy) w.views.devices

-- the moments that lines await, and those of the devices' expiries
abbrev pub moments : Plan → Snapshot → List ℕ
moments plan s = due_moments plan s ++ filter_map (λ p. expiry s.world.views (record { 0 = p.0 })) (enumerate_from 0 plan.devices)

-- the line tests an expiry, and comes then
abbrev pub TestsInTime : Plan → Snapshot → Line → Type 0
TestsInTime plan s line = (s.time < line.time) × (option_and_then (expiry_at s.world.views) (stage_at plan s.world line.actor) ≡ Some line.time)

-- the line observations a device as busy, and comes at one of these moments
abbrev pub MarksInTime : Plan → Snapshot → Line → Type 0
MarksInTime plan s line = (s.time < line.time) × Contains (moments plan s) line.time × (busy_marks (after plan s line).world ≢ busy_marks s.world)

-- The line comes when a pace lets it: at an eager one at the one moment at which any does; at a late one now, or when it is
-- due, or where the tests of a suspend compare with an expiry then, or where it observations a device as busy at any of the moments.
abbrev pub IsTimely : Pace → Plan → Snapshot → Line → Type 0
IsTimely Eager plan s line = prompt_time plan s ≡ Some line.time
IsTimely Late plan s line = (line.time ≡ s.time) ⊎ (due_moment plan s line.actor ≡ Some line.time) ⊎ TestsInTime plan s line ⊎ MarksInTime plan s line

-- who wrote the last line may write now
abbrev pub last_may : Plan → Snapshot → Bool
last_may plan s = option_map_or (may_write plan s.world s.time) s.last false

-- The line preempts: who wrote the last one may write now, and another writes or the time moves; or the time moves though
-- somebody may write now.
abbrev pub preempts : Plan → Snapshot → Line → Bool
preempts plan s line =
    last_may plan s && (not (option_map_or (is_actor line.actor) s.last false) || nat_lt s.time line.time)
    || nat_lt s.time line.time && anyone_may plan s

-- the line may come next: what `Permits` says of each list that stands there
pub record MayFollow (plan : Plan) (s : Snapshot) (line : Line) : Type 0 where
  pub stage : Stage
  pub stands : stage_at plan s.world line.actor ≡ Some stage
  pub change : Change
  pub next : Then
  pub gives : move plan s.world.views stage line.time ≡ Some (Write line.event change next)
  pub in_time : s.time ≤ line.time

-- a line leads from one snapshot to the other, and preempts or doesn't
pub record Follows (pace : Pace) (plan : Plan) (preempting : Bool) (from to : Snapshot) : Type 0 where
  pub line : Line
  pub may : MayFollow plan from line
  pub timely : IsTimely pace plan from line
  pub preempts_is : preempts plan from line ≡ preempting
  pub leads : to ≡ after plan from line
