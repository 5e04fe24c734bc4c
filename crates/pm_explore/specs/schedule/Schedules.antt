-- The schedules of a plan's lines (this project's own). The newest line comes first.
use Rattle.std.specs.Prelude.{ℕ, ℤ, suc, Bool, true, false, [], ◌∷◌, Option, Some, None}
use Rattle.pm_base.specs.declared.ActorId.{ActorId}
use Rattle.pm_model.specs.declared.plan.Plan.{Plan}
use Rattle.pm_model.specs.History.{History}
use Rattle.pm_model.specs.Lawful.{Permits, last_time}
use Rattle.pm_model.specs.World.{world}
use Rattle.pm_explore.specs.declared.schedule.Pace.{Pace}
use Rattle.pm_explore.specs.schedule.Snapshots.{IsTimely, Snapshot, code_of, preempts}

abbrev pub last_actor : History → Option ActorId
last_actor [] = None
last_actor (line ∷ h) = Some line.actor

abbrev pub last_code : History → Option ℤ
last_code [] = None
last_code (line ∷ h) = code_of line.event

-- where a list of lines stands
abbrev pub snapshot : Plan → History → Snapshot
snapshot plan h = record { world = world plan h; time = last_time h; last = last_actor h; code = last_code h }

-- a schedule at a pace: each line may come after those before it, and comes when the pace lets it
abbrev pub IsSchedule : Pace → Plan → History → Type 0
IsSchedule pace plan [] = Unit {0}
IsSchedule pace plan (line ∷ h) = Permits plan h line × IsTimely pace plan (snapshot plan h) line × IsSchedule pace plan h

abbrev pub one_more_if : Bool → ℕ → ℕ
one_more_if true n = suc n
one_more_if false n = n

-- how many of the lines preempt
abbrev pub preemptions : Plan → History → ℕ
preemptions plan [] = 0
preemptions plan (line ∷ h) = one_more_if (preempts plan (snapshot plan h) line) (preemptions plan h)
