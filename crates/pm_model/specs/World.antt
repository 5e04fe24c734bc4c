-- Where a run stands after a list of lines, the newest first: the views, and the place of each actor (this project's
-- own).
use Rattle.std.specs.Prelude.{ℕ, ◌+◌, false, List, [], ◌∷◌, Option, Some, None, map, drop, nat_abs, slice_get, slice_set, slice_index_or, if◌then◌else◌}
use Rattle.std.specs.List.{enumerate_from}
use Rattle.std.specs.Option.{option_map_or, option_and_then}
use Rattle.std.specs.Prelude.{not, option_map}
use Rattle.pm_base.specs.declared.ActorId.{ActorId}
use Rattle.pm_base.specs.declared.ActorId.TheVariants.{Caller, Work, Timer}
use Rattle.pm_base.specs.declared.Cb.TheVariants as cb
use Rattle.pm_model.specs.declared.event.Command.{Command}
use Rattle.pm_model.specs.declared.event.Event.{Event}
use Rattle.pm_model.specs.declared.event.Event.TheVariants as event
use Rattle.pm_model.specs.declared.event.Line.{Line}
use Rattle.pm_model.specs.declared.plan.Plan.{Plan}
use Rattle.pm_model.specs.declared.stage.HelperStage.TheVariants as at
use Rattle.pm_model.specs.declared.stage.IdleStage.TheVariants as idle
use Rattle.pm_model.specs.declared.stage.Move.{Move}
use Rattle.pm_model.specs.declared.stage.ResumeStage.TheVariants as resume
use Rattle.pm_model.specs.declared.stage.Stage.{Stage}
use Rattle.pm_model.specs.declared.stage.Stage.TheVariants as stage
use Rattle.pm_model.specs.declared.stage.SuspendStage.TheVariants as suspend
use Rattle.pm_model.specs.History.{History}
use Rattle.pm_model.specs.PlanRows.{is_kept_on, ms_of}
use Rattle.pm_model.specs.Views.{Views, fresh_device, fresh_pending, pending_of, timer}
use Rattle.pm_model.specs.Events.{by_event}
use Rattle.pm_model.specs.ChangeViews.{change_views}
use Rattle.pm_model.specs.Row.{Row, writes, timed}
use Rattle.pm_model.specs.IdleTable.{idle_row}
use Rattle.pm_model.specs.SuspendTable.{suspend_row}
use Rattle.pm_model.specs.ResumeTable.{resume_row}
use Rattle.pm_model.specs.HelperTable.{helper_row}
use Rattle.pm_model.specs.ControlTable.{control_row}
use Rattle.pm_model.specs.Handing.{after_then}

-- the row of the call table at a stage on these views at t; a stage under a call has none
abbrev pub row : Plan → Views → Stage → ℕ → Option Row
row plan v (stage.Idle s) t = Some (idle_row plan v s t)
row plan v (stage.Suspend s) t = Some (suspend_row plan v s t)
row plan v (stage.Resume s) t = Some (resume_row plan v s t)
row plan v (stage.Helper s) t = Some (helper_row plan v s t)
row plan v (stage.Control s) t = Some (control_row plan v s t)
row plan v (stage.Await s) t = None

-- when the line of a stage is due: the end of a callback and of a delay some time after it began, a timer at its
-- deadline, every other line at once
abbrev pub due : Plan → Views → Stage → ℕ
due plan v (stage.Idle (idle.Running d f since)) = since + ms_of plan cb.Idle d
due plan v (stage.Suspend (suspend.Running d f since)) = since + ms_of plan cb.Suspend d
due plan v (stage.Resume (resume.Running r since)) = since + ms_of plan cb.Resume r.dev
due plan v (stage.Helper (at.Delay ms since)) = since + nat_abs ms
due plan v (stage.Helper (at.Timer d)) = option_map_or (λ armed. armed.deadline) (timer v d) 0
due plan v _ = 0

-- what an actor may do at a stage at t
abbrev pub move : Plan → Views → Stage → ℕ → Option Move
move plan v s t = option_map (timed (due plan v s) t) (row plan v s t)

-- the views, the place of each actor, the next to write first, and how many commands each caller has called
pub record World : Type 0 where
  pub views : Views
  pub caller_places : List (List Stage)
  pub work_places : List (List Stage)
  pub timer_places : List (List Stage)
  pub called : List ℕ

abbrev pub place : World → ActorId → List Stage
place w (Caller c) = slice_index_or w.caller_places c []
place w (Work d) = slice_index_or w.work_places d []
place w (Timer d) = slice_index_or w.timer_places d []

abbrev pub with_place : World → ActorId → List Stage → World
with_place w (Caller c) stages = record w { caller_places = slice_set w.caller_places c stages }
with_place w (Work d) stages = record w { work_places = slice_set w.work_places d stages }
with_place w (Timer d) stages = record w { timer_places = slice_set w.timer_places d stages }

abbrev pub called_by : World → ℕ → ℕ
called_by w c = slice_index_or w.called c 0

-- the next command of a caller's script
abbrev pub next_command : Plan → World → ℕ → Option Command
next_command plan w c = option_and_then (λ caller. slice_get caller.script (called_by w c)) (slice_get plan.callers c)

-- what an actor with an empty place has to start
abbrev pub ready : Plan → World → ActorId → Option Stage
ready plan w (Caller c) = option_map (λ command. stage.Helper (at.Call command)) (next_command plan w c)
ready plan w (Work d) = if (pending_of w.views (record { 0 = d })).queued then Some (stage.Helper (at.Work (record { 0 = d }))) else None
ready plan w (Timer d) = option_map (λ armed. stage.Helper (at.Timer (record { 0 = d }))) (timer w.views (record { 0 = d }))

abbrev pub top : Option Stage → List Stage → Option Stage
top otherwise [] = otherwise
top otherwise (s ∷ rest) = Some s

-- the stage at which an actor stands
abbrev pub stage_at : Plan → World → ActorId → Option Stage
stage_at plan w actor = top (ready plan w actor) (place w actor)

-- a call line of a caller is one more command that it has called
abbrev pub counts_call : ActorId → Event → List ℕ → List ℕ
counts_call (Caller c) (event.Call command) called = slice_set called c (slice_index_or called c 0 + 1)
counts_call _ _ called = called

-- a line's event changes the views of itself; the row at which its actor stands names the other change and what takes
-- the stage's place
abbrev pub after_line : Plan → World → Line → Option Row → World
after_line plan w line (Some (writes e change next)) =
    with_place (record w {
      views = by_event plan line.time line.event (change_views plan line.time change w.views);
      called = counts_call line.actor line.event w.called;
    }) line.actor (after_then next (drop 1 (place w line.actor)))
after_line plan w line _ = record w { views = by_event plan line.time line.event w.views }

abbrev pub row_at : Plan → World → ActorId → ℕ → Option Row
row_at plan w actor t = option_and_then (λ s. row plan w.views s t) (stage_at plan w actor)

-- the views before any line
abbrev pub start_views : Plan → Views
start_views plan = record {
  devices = map (λ row. record fresh_device { ignores = row.ignore_children }) plan.devices;
  pending = map (λ row. fresh_pending) plan.devices;
  timers = map (λ row. None) plan.devices;
  on = map (λ p. is_kept_on plan.domains p.0) (enumerate_from 0 plan.domains);
  held = map (λ row. false) plan.links;
  present = map (λ row. not row.later) plan.links;
}

abbrev pub start : Plan → World
start plan = record {
  views = start_views plan;
  caller_places = map (λ row. []) plan.callers;
  work_places = map (λ row. []) plan.devices;
  timer_places = map (λ row. []) plan.devices;
  called = map (λ row. 0) plan.callers;
}

-- after these lines, of which the newest is first
abbrev pub world : Plan → History → World
world plan [] = start plan
world plan (line ∷ h) = let w = world plan h in after_line plan w line (row_at plan w line.actor line.time)
