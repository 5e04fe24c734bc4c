-- Whether an event may come next at some time, however late (this project's own).
use Rattle.std.specs.Prelude.{ℕ, ◌≡◌, ◌≤◌, Bool, true, false, Option, Some, None, pos, if◌then◌else◌}
use Rattle.pm_base.specs.declared.Cb.TheVariants as cb
use Rattle.pm_base.specs.declared.codes.TheConstants.{ASYNC}
use Rattle.pm_base.specs.declared.DevId.{DevId}
use Rattle.pm_model.specs.declared.event.Event.{Event}
use Rattle.pm_model.specs.declared.event.Event.TheVariants as event
use Rattle.pm_model.specs.declared.event.Helper.TheVariants as helper
use Rattle.pm_model.specs.declared.event.Line.{Line}
use Rattle.pm_model.specs.declared.event.TimerAct.TheVariants as timer
use Rattle.pm_model.specs.declared.event.Word.TheVariants as word
use Rattle.pm_model.specs.declared.event.WorkAct.TheVariants.{Queue}
use Rattle.pm_model.specs.declared.plan.Plan.{Plan}
use Rattle.pm_model.specs.declared.stage.Change.{Change}
use Rattle.pm_model.specs.declared.stage.HelperStage.TheVariants as at
use Rattle.pm_model.specs.declared.stage.IdleStage.TheVariants as idle
use Rattle.pm_model.specs.declared.stage.Move.TheVariants.{Write}
use Rattle.pm_model.specs.declared.stage.ResumeStage.TheVariants as resume
use Rattle.pm_model.specs.declared.stage.Stage.{Stage}
use Rattle.pm_model.specs.declared.stage.Stage.TheVariants as stage
use Rattle.pm_model.specs.declared.stage.SuspendStage.TheVariants as suspend
use Rattle.pm_model.specs.declared.stage.Then.{Then}
use Rattle.pm_model.specs.Changes.{has_auto_timer}
use Rattle.pm_model.specs.Derived.{callback_code, has}
use Rattle.pm_model.specs.PlanRows.{no_callbacks}
use Rattle.pm_model.specs.SuspendTable.{suspend_request}
use Rattle.pm_model.specs.Views.{Views}
use Rattle.pm_model.specs.World.{World, due, move, stage_at}
use Rattle.pm_laws.specs.bounds.Times.{event_at}

-- from some time on the line of a stage is due, and once it is, its row writes this event
abbrev pub Comes : Plan → Views → Stage → ℕ → Event → Type 0
Comes plan v s last e = (t : ℕ) × (last ≤ t) × (due plan v s ≤ t) × (event_at plan v s t ≡ Some e)

-- the event of a line that is due some time after an earlier one: the end of a callback or of a delay, or a timer
abbrev pub awaited : Plan → Views → Stage → Option Event
awaited plan v (stage.Idle (idle.Running d f since)) = Some (event.End d cb.Idle (callback_code plan v cb.Idle d))
awaited plan v (stage.Suspend (suspend.Running d f since)) = Some (event.End d cb.Suspend (callback_code plan v cb.Suspend d))
awaited plan v (stage.Resume (resume.Running r since)) = Some (event.End r.dev cb.Resume (callback_code plan v cb.Resume r.dev))
awaited plan v (stage.Helper (at.Delay ms since)) = Some (event.Ret helper.Delay (record { 0 = 0 }) (pos 0))
awaited plan v (stage.Helper (at.Timer d)) = Some (event.Timer d (timer.Fire (has_auto_timer v d)))
awaited plan v _ = None

-- the device and the flags of a suspend whose tests are made at a stage
abbrev pub tested_at : Stage → Option (DevId × ℕ)
tested_at (stage.Suspend (suspend.Verdict d f)) = Some (d, f)
tested_at (stage.Suspend (suspend.Waiting d f)) = Some (d, f)
tested_at _ = None

-- an autosuspend is put off until the expiry
abbrev pub is_put_off : Event → Bool
is_put_off (event.Timer d (timer.Arm moment true)) = true
is_put_off _ = false

-- what is written of it once the expiry has passed
abbrev pub once_expired : Plan → DevId → ℕ → Event
once_expired plan d f =
    if no_callbacks plan d then event.State d word.Suspended
    else if has f ASYNC then event.Work d (Queue (suspend_request f))
    else event.Begin d cb.Suspend

-- a suspend that is put off where its row writes one event writes the other once the expiry has passed
abbrev pub Follows : Plan → Stage → Event → Event → Type 0
Follows plan s now later = (d : DevId) × (f : ℕ) × (tested_at s ≡ Some (d, f)) × (is_put_off now ≡ true) × (once_expired plan d f ≡ later)

-- where the run stands so and the last line was written at that time, the line may come next: its row names this change,
-- and this takes its stage's place
pub record Writes (plan : Plan) (w : World) (last : ℕ) (line : Line) (c : Change) (next : Then) : Type 0 where
  pub stage : Stage
  pub stands : stage_at plan w line.actor ≡ Some stage
  pub gives : move plan w.views stage line.time ≡ Some (Write line.event c next)
  pub in_time : last ≤ line.time

abbrev pub MayCome : Plan → World → ℕ → Line → Type 0
MayCome plan w last line = (c : Change) × (next : Then) × Writes plan w last line c next
