-- Which device a line may change, and on which device the moment of an actor depends (this project's own).
use Rattle.std.specs.Prelude.{◌≢◌, Bool, true, false, ◌||◌, List, [], ◌∷◌, Option, Some, None}
use Rattle.pm_base.specs.declared.ActorId.{ActorId}
use Rattle.pm_base.specs.declared.ActorId.TheVariants.{Caller, Work, Timer}
use Rattle.pm_base.specs.declared.DevId.{DevId}
use Rattle.pm_model.specs.declared.event.Event.{Event}
use Rattle.pm_model.specs.declared.event.Event.TheVariants as event
use Rattle.pm_model.specs.declared.stage.Change.{Change}
use Rattle.pm_model.specs.declared.stage.Change.TheVariants as change
use Rattle.pm_model.specs.declared.stage.ControlStage.TheVariants as control
use Rattle.pm_model.specs.declared.stage.HelperStage.TheVariants as at
use Rattle.pm_model.specs.declared.stage.ResumeStage.TheVariants as resume
use Rattle.pm_model.specs.declared.stage.Stage.{Stage}
use Rattle.pm_model.specs.declared.stage.Stage.TheVariants as stage
use Rattle.pm_model.specs.declared.stage.SuspendStage.TheVariants as suspend
use Rattle.pm_model.specs.WellFormed.{device_of}
use Rattle.pm_model.specs.World.{World, place}

-- the device that a line at this stage may change; a call line only names one
abbrev pub device_at : Stage → Option DevId
device_at (stage.Helper (at.Call c)) = None
device_at s = device_of s

-- the device that an event speaks of; a call line only names one
abbrev pub device_in : Event → Option DevId
device_in (event.Call c) = None
device_in (event.Ret h d c) = Some d
device_in (event.Get d w) = Some d
device_in (event.Put d w) = Some d
device_in (event.Usage d x) = Some d
device_in (event.Idle d x) = Some d
device_in (event.Suspend d x) = Some d
device_in (event.Resume d x) = Some d
device_in (event.Return k d c) = Some d
device_in (event.Wait d) = Some d
device_in (event.State d w) = Some d
device_in (event.Begin d k) = Some d
device_in (event.End d k c) = Some d
device_in (event.Domain d is_up n) = Some d
device_in (event.Work d act) = Some d
device_in (event.Timer d act) = Some d

-- the device whose moments a change may move; a link's presence moves none
abbrev pub device_changed : Change → Option DevId
device_changed change.Same = None
device_changed (change.CancelRequest d) = Some d
device_changed (change.Disarm d) = Some d
device_changed (change.Cancel d) = Some d
device_changed (change.CancelAll d) = Some d
device_changed (change.ResumeCancel d) = Some d
device_changed (change.CallbackMarks d) = Some d
device_changed (change.SuspendEnded d c) = Some d
device_changed (change.MarkBusy d) = Some d
device_changed (change.Enable d) = Some d
device_changed (change.Disable d) = Some d
device_changed (change.DisableBusy d) = Some d
device_changed (change.DisableAtOnce d) = Some d
device_changed (change.KeepStatus d) = Some d
device_changed (change.Set d use_auto delay) = Some d
device_changed (change.Ignore d ignores) = Some d
device_changed (change.Link c s present) = None

-- an event may queue a work item or begin it, or arm a timer or disarm it
abbrev pub event_stirs : Event → Bool
event_stirs (event.State d w) = true
event_stirs (event.Work d act) = true
event_stirs (event.Timer d act) = true
event_stirs _ = false

-- a change may take a work item from its queue, or disarm a timer
abbrev pub change_stirs : Change → Bool
change_stirs (change.Disarm d) = true
change_stirs (change.Cancel d) = true
change_stirs (change.CancelAll d) = true
change_stirs (change.ResumeCancel d) = true
change_stirs (change.SuspendEnded d c) = true
change_stirs (change.DisableBusy d) = true
change_stirs (change.DisableAtOnce d) = true
change_stirs _ = false

-- a line with this event, whose row names this change, may move from when a work item or a timer may start
abbrev pub stirs : Event → Change → Bool
stirs e c = event_stirs e || change_stirs c

-- the device that is waited for after a wait line
abbrev pub waits_at : Stage → Option DevId
waits_at (stage.Suspend (suspend.Waiting d f)) = Some d
waits_at (stage.Resume (resume.Waiting r tried)) = Some r.dev
waits_at (stage.Control (control.Disabled d)) = Some d
waits_at (stage.Control (control.BarrierWait d c)) = Some d
waits_at _ = None

-- the device on which the moment of a stage depends, if there is one: the one that is waited for, or whose timer it is
abbrev pub looks : Stage → Option DevId
looks (stage.Helper (at.Timer d)) = Some d
looks s = waits_at s

-- the device on which the moment of an actor with these stages depends, if there is one; a work item at rest looks at
-- its own device, and a timer too
abbrev pub looks_by : ActorId → List Stage → Option DevId
looks_by actor (s ∷ rest) = looks s
looks_by (Caller c) [] = None
looks_by (Work d) [] = Some (record { 0 = d })
looks_by (Timer d) [] = Some (record { 0 = d })

abbrev pub looks_at : World → ActorId → Option DevId
looks_at w actor = looks_by actor (place w actor)

-- it is another device than this one, if it is one
abbrev pub IsApart : Option DevId → DevId → Type 0
IsApart None x = Unit {0}
IsApart (Some d) x = x.0 ≢ d.0

-- neither the stage that writes a line nor the event of the line has the device that is looked at, if one is
abbrev pub IsSpared : Option DevId → Stage → Event → Type 0
IsSpared None s e = Unit {0}
IsSpared (Some x) s e = IsApart (device_at s) x × IsApart (device_in e) x
