-- The spelling of a line, in format 1 of a trace. The four payloads are spelled as the kernel's rpm_* events
-- (include/trace/events/rpm.h); all else is this project's own.
use Rattle.std.specs.Prelude.{ℕ, Bool, true, false, List, [], ◌∷◌, ◌++◌, ◌-◌, ℤ, pos, nat_abs, nat_lt, codes, decimal, length, slice_index_or, if◌then◌else◌}
use Rattle.std.specs.Fmt.{digits, signed_decimal}
use Rattle.std.specs.List.{flat_map}
use Rattle.std.specs.Ordering.{int_eq}
use Rattle.pm_base.specs.declared.ActorId.{ActorId}
use Rattle.pm_base.specs.declared.ActorId.TheVariants.{Caller, Work, Timer}
use Rattle.pm_base.specs.declared.DevId.{DevId}
use Rattle.pm_base.specs.declared.Cb.{Cb}
use Rattle.pm_base.specs.declared.Cb.TheVariants as cb
use Rattle.pm_base.specs.declared.Req.{Req}
use Rattle.pm_base.specs.declared.Req.TheVariants as req
use Rattle.pm_base.specs.declared.Why.{Why}
use Rattle.pm_base.specs.declared.Why.TheVariants as why
use Rattle.pm_model.specs.declared.event.Helper.{Helper}
use Rattle.pm_model.specs.declared.event.Helper.TheVariants as helper
use Rattle.pm_model.specs.declared.event.Operand.{Operand}
use Rattle.pm_model.specs.declared.event.Operand.TheVariants as operand
use Rattle.pm_model.specs.declared.event.Command.{Command}
use Rattle.pm_model.specs.declared.event.Word.{Word}
use Rattle.pm_model.specs.declared.event.Word.TheVariants as word
use Rattle.pm_model.specs.declared.event.Fields.{Fields}
use Rattle.pm_model.specs.declared.event.WorkAct.{WorkAct}
use Rattle.pm_model.specs.declared.event.WorkAct.TheVariants as work
use Rattle.pm_model.specs.declared.event.TimerAct.{TimerAct}
use Rattle.pm_model.specs.declared.event.TimerAct.TheVariants as timer
use Rattle.pm_model.specs.declared.event.Event.{Event}
use Rattle.pm_model.specs.declared.event.Event.TheVariants as event
use Rattle.pm_model.specs.declared.event.Line.{Line}

-- the names that lines are spelled with, in the plan's order
pub record Names : Type 0 where
  pub devices : List (List ℕ)
  pub callers : List (List ℕ)

abbrev pub device_name : Names → ℕ → List ℕ
device_name names d = slice_index_or names.devices d []

abbrev pub caller_name : Names → ℕ → List ℕ
caller_name names c = slice_index_or names.callers c []

abbrev pub helper_word : Helper → List ℕ
helper_word helper.GetSync = codes "get_sync"
helper_word helper.Get = codes "get"
helper_word helper.GetNoresume = codes "get_noresume"
helper_word helper.GetIfInUse = codes "get_if_in_use"
helper_word helper.GetIfActive = codes "get_if_active"
helper_word helper.Resume = codes "resume"
helper_word helper.RequestResume = codes "request_resume"
helper_word helper.Put = codes "put"
helper_word helper.PutSync = codes "put_sync"
helper_word helper.PutNoidle = codes "put_noidle"
helper_word helper.PutAutosuspend = codes "put_autosuspend"
helper_word helper.PutSyncSuspend = codes "put_sync_suspend"
helper_word helper.PutSyncAutosuspend = codes "put_sync_autosuspend"
helper_word helper.Idle = codes "idle"
helper_word helper.RequestIdle = codes "request_idle"
helper_word helper.Suspend = codes "suspend"
helper_word helper.Autosuspend = codes "autosuspend"
helper_word helper.RequestAutosuspend = codes "request_autosuspend"
helper_word helper.ScheduleSuspend = codes "schedule_suspend"
helper_word helper.Enable = codes "enable"
helper_word helper.Disable = codes "disable"
helper_word helper.Barrier = codes "barrier"
helper_word helper.SetActive = codes "set_active"
helper_word helper.SetSuspended = codes "set_suspended"
helper_word helper.Allow = codes "allow"
helper_word helper.Forbid = codes "forbid"
helper_word helper.MarkLastBusy = codes "mark_last_busy"
helper_word helper.UseAutosuspend = codes "use_autosuspend"
helper_word helper.DontUseAutosuspend = codes "dont_use_autosuspend"
helper_word helper.SetAutosuspendDelay = codes "set_autosuspend_delay"
helper_word helper.Delay = codes "delay"
helper_word helper.IgnoreChildren = codes "ignore_children"
helper_word helper.LinkAdd = codes "link_add"
helper_word helper.LinkDel = codes "link_del"

abbrev pub status_word : Word → List ℕ
status_word word.Active = codes "active"
status_word word.Resuming = codes "resuming"
status_word word.Suspended = codes "suspended"
status_word word.Deferred = codes "deferred"
status_word word.ForcedActive = codes "forced_active"
status_word word.ForcedSuspended = codes "forced_suspended"

abbrev pub req_word : Req → List ℕ
req_word req.Nothing = codes "none"
req_word req.Idle = codes "idle"
req_word req.Suspend = codes "suspend"
req_word req.Autosuspend = codes "autosuspend"
req_word req.Resume = codes "resume"

abbrev pub cb_word : Cb → List ℕ
cb_word cb.Idle = codes "idle"
cb_word cb.Suspend = codes "suspend"
cb_word cb.Resume = codes "resume"

-- the kind of a timer
abbrev pub kind_word : Bool → List ℕ
kind_word autosuspends = if autosuspends then codes "auto" else codes "plain"

abbrev pub space : List ℕ
space = codes " "

abbrev pub newline : List ℕ
newline = codes "\n"

-- what the helper takes besides its device
abbrev pub operand_of : Helper → Operand
operand_of helper.ScheduleSuspend = operand.Milliseconds
operand_of helper.SetAutosuspendDelay = operand.Milliseconds
operand_of helper.Delay = operand.Milliseconds
operand_of helper.IgnoreChildren = operand.Switch
operand_of helper.LinkAdd = operand.Supplier
operand_of helper.LinkDel = operand.Supplier
operand_of _ = operand.Nothing

-- each helper but delay takes a device
abbrev pub takes_device : Helper → Bool
takes_device helper.Delay = false
takes_device _ = true

abbrev pub device_part : Names → Helper → DevId → List ℕ
device_part names h d = if takes_device h then space ++ device_name names d.0 else []

abbrev pub operand_part : Names → Operand → ℤ → List ℕ
operand_part names operand.Nothing n = []
operand_part names operand.Milliseconds n = space ++ signed_decimal n
operand_part names operand.Switch n = if int_eq n (pos 0) then codes " off" else codes " on"
operand_part names operand.Supplier n = space ++ device_name names (nat_abs n)

abbrev pub command_text : Names → Command → List ℕ
command_text names c = helper_word c.helper ++ device_part names c.helper c.dev ++ operand_part names (operand_of c.helper) c.number

abbrev pub why_text : Names → Why → List ℕ
why_text names why.Caller = codes "caller"
why_text names why.Control = codes "control"
why_text names why.Forbid = codes "forbid"
why_text names why.Delay = codes "delay"
why_text names (why.Child d) = codes "child " ++ device_name names d.0
why_text names (why.Link d) = codes "link " ++ device_name names d.0

-- padded on the right with spaces to two places, as %-2d pads
abbrev pub padded : List ℕ → List ℕ
padded bytes = if nat_lt (length bytes) 2 then bytes ++ space else bytes

abbrev pub bit : Bool → List ℕ
bit b = if b then codes "1" else codes "0"

-- %s flags-%x cnt-%-2d dep-%-2d auto-%-1d p-%-1d irq-%-1d child-%d
abbrev pub payload : Names → DevId → Fields → List ℕ
payload names d f =
    device_name names d.0 ++ codes " flags-" ++ digits 16 false f.flags ++ codes " cnt-" ++ padded (decimal f.cnt) ++ codes " dep-" ++ padded (decimal f.dep)
    ++ codes " auto-" ++ bit f.auto_on ++ codes " p-" ++ bit f.pending ++ codes " irq-0 child-" ++ decimal f.child

abbrev pub work_text : WorkAct → List ℕ
work_text (work.Queue r) = codes "queue " ++ req_word r
work_text work.Defer = codes "defer"
work_text (work.Run r) = codes "run " ++ req_word r

abbrev pub timer_text : TimerAct → List ℕ
timer_text (timer.Arm at autosuspends) = codes "arm " ++ decimal at ++ space ++ kind_word autosuspends
timer_text (timer.Fire autosuspends) = codes "fire " ++ kind_word autosuspends

-- the event's name, a colon, and the rest
abbrev pub event_text : Names → Event → List ℕ
event_text names (event.Call c) = codes "pm_call: " ++ command_text names c
event_text names (event.Ret h d c) = codes "pm_ret: " ++ helper_word h ++ device_part names h d ++ space ++ signed_decimal c
event_text names (event.Get d w) = codes "pm_get: " ++ device_name names d.0 ++ space ++ why_text names w
event_text names (event.Put d w) = codes "pm_put: " ++ device_name names d.0 ++ space ++ why_text names w
event_text names (event.Usage d f) = codes "rpm_usage: " ++ payload names d f
event_text names (event.Idle d f) = codes "rpm_idle: " ++ payload names d f
event_text names (event.Suspend d f) = codes "rpm_suspend: " ++ payload names d f
event_text names (event.Resume d f) = codes "rpm_resume: " ++ payload names d f
event_text names (event.Return func d c) = codes "rpm_return_int: rpm_" ++ cb_word func ++ codes ":" ++ device_name names d.0 ++ codes " ret=" ++ signed_decimal c
event_text names (event.Wait d) = codes "pm_wait: " ++ device_name names d.0
event_text names (event.State d w) = codes "pm_status: " ++ device_name names d.0 ++ space ++ status_word w
event_text names (event.Begin d k) = codes "pm_callback: " ++ device_name names d.0 ++ space ++ cb_word k ++ codes " begin"
event_text names (event.End d k c) = codes "pm_callback: " ++ device_name names d.0 ++ space ++ cb_word k ++ codes " end " ++ signed_decimal c
event_text names (event.Domain d up n) = codes "pm_domain: " ++ device_name names d.0 ++ (if up then codes " up " else codes " down ") ++ decimal n
event_text names (event.Work d act) = codes "pm_work: " ++ device_name names d.0 ++ space ++ work_text act
event_text names (event.Timer d act) = codes "pm_timer: " ++ device_name names d.0 ++ space ++ timer_text act

abbrev pub actor_text : Names → ActorId → List ℕ
actor_text names (Caller c) = caller_name names c
actor_text names (Work d) = codes "work." ++ device_name names d
actor_text names (Timer d) = codes "timer." ++ device_name names d

-- a line's time, its actor and its event, without the newline
abbrev pub line_text : Names → Line → List ℕ
line_text names line = decimal line.time ++ space ++ actor_text names line.actor ++ space ++ event_text names line.event

-- the text of a list of lines in order, in format 1
abbrev pub lines_text : Names → List Line → List ℕ
lines_text names lines = flat_map (λ line. line_text names line ++ newline) lines

-- a line in format 2, behind a line of that time: the difference stands in place of the time
abbrev pub line_text2 : Names → ℕ → Line → List ℕ
line_text2 names base line = line_text names (record line { time = line.time - base })

-- lines in order in format 2, behind a line of that time
abbrev pub lines_text2 : Names → ℕ → List Line → List ℕ
lines_text2 names base [] = []
lines_text2 names base (line ∷ lines) = line_text2 names base line ++ newline ++ lines_text2 names line.time lines

-- the line with which a trace of format 2 begins
abbrev pub header : List ℕ
header = codes "pm_trace 2" ++ newline
