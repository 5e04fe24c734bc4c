-- Which lines are lines of a plan with so many devices and callers: those that have a text (this project's own).
use Rattle.std.specs.Prelude.{ℕ, ◌^◌, Bool, true, false, ◌&&◌, ◌||◌, ℤ, pos, neg_ℤ, nat_abs, nat_eq, nat_lt, int_le, int_lt, length, if◌then◌else◌}
use Rattle.std.specs.Ordering.{int_eq}
use Rattle.pm_base.specs.declared.ActorId.{ActorId}
use Rattle.pm_base.specs.declared.ActorId.TheVariants.{Caller, Work, Timer}
use Rattle.pm_base.specs.declared.DevId.{DevId}
use Rattle.pm_base.specs.declared.Req.{Req}
use Rattle.pm_base.specs.declared.Req.TheVariants as req
use Rattle.pm_base.specs.declared.Why.{Why}
use Rattle.pm_base.specs.declared.Why.TheVariants as why
use Rattle.pm_model.specs.declared.event.Command.{Command}
use Rattle.pm_model.specs.declared.event.Event.{Event}
use Rattle.pm_model.specs.declared.event.Event.TheVariants as event
use Rattle.pm_model.specs.declared.event.Fields.{Fields}
use Rattle.pm_model.specs.declared.event.Helper.{Helper}
use Rattle.pm_model.specs.declared.event.Line.{Line}
use Rattle.pm_model.specs.declared.event.Operand.{Operand}
use Rattle.pm_model.specs.declared.event.Operand.TheVariants as operand
use Rattle.pm_model.specs.declared.event.TimerAct.{TimerAct}
use Rattle.pm_model.specs.declared.event.TimerAct.TheVariants as timer
use Rattle.pm_model.specs.declared.event.WorkAct.{WorkAct}
use Rattle.pm_model.specs.declared.event.WorkAct.TheVariants as work
use Rattle.pm_model.specs.declared.plan.Plan.{Plan}
use Rattle.pm_model.specs.Spelling.{operand_of, takes_device}

-- a signed number of so many bits
abbrev pub fits_signed : ℕ → ℤ → Bool
fits_signed half n = int_le (neg_ℤ (pos half)) n && int_lt n (pos half)

abbrev pub fits_i32 : ℤ → Bool
fits_i32 n = fits_signed (2 ^ 31) n

abbrev pub fits_u32 : ℕ → Bool
fits_u32 n = nat_lt n (2 ^ 32)

-- the device of a command or of its return, which for delay is 0
abbrev pub is_device_of : ℕ → Helper → DevId → Bool
is_device_of devices h d = if takes_device h then nat_lt d.0 devices else nat_eq d.0 0

-- a number that a command of a trace may have, which may be none that a script may
abbrev pub is_number_of : ℕ → Operand → ℤ → Bool
is_number_of devices operand.Nothing n = int_eq n (pos 0)
is_number_of devices operand.Milliseconds n = fits_signed (2 ^ 63) n
is_number_of devices operand.Switch n = int_eq n (pos 0) || int_eq n (pos 1)
is_number_of devices operand.Supplier n = int_le (pos 0) n && nat_lt (nat_abs n) devices

abbrev pub is_command_line : ℕ → Command → Bool
is_command_line devices c = is_device_of devices c.helper c.dev && is_number_of devices (operand_of c.helper) c.number

abbrev pub is_ret_line : ℕ → Helper → DevId → ℤ → Bool
is_ret_line devices h d c = is_device_of devices h d && (if takes_device h then fits_i32 c else int_eq c (pos 0))

abbrev pub is_why_of : ℕ → Why → Bool
is_why_of devices (why.Child d) = nat_lt d.0 devices
is_why_of devices (why.Link d) = nat_lt d.0 devices
is_why_of devices _ = true

abbrev pub are_fields : Fields → Bool
are_fields f = nat_lt f.flags (2 ^ 8) && fits_u32 f.cnt && fits_u32 f.dep && fits_u32 f.child

abbrev pub is_request : Req → Bool
is_request req.Nothing = false
is_request _ = true

-- a queue line never has none
abbrev pub is_work_line : WorkAct → Bool
is_work_line (work.Queue r) = is_request r
is_work_line work.Defer = true
is_work_line (work.Run r) = true

abbrev pub is_timer_line : TimerAct → Bool
is_timer_line (timer.Arm at autosuspends) = nat_lt at (2 ^ 64)
is_timer_line (timer.Fire autosuspends) = true

abbrev pub is_event_of : ℕ → Event → Bool
is_event_of devices (event.Call c) = is_command_line devices c
is_event_of devices (event.Ret h d c) = is_ret_line devices h d c
is_event_of devices (event.Get d w) = nat_lt d.0 devices && is_why_of devices w
is_event_of devices (event.Put d w) = nat_lt d.0 devices && is_why_of devices w
is_event_of devices (event.Usage d f) = nat_lt d.0 devices && are_fields f
is_event_of devices (event.Idle d f) = nat_lt d.0 devices && are_fields f
is_event_of devices (event.Suspend d f) = nat_lt d.0 devices && are_fields f
is_event_of devices (event.Resume d f) = nat_lt d.0 devices && are_fields f
is_event_of devices (event.Return func d c) = nat_lt d.0 devices && fits_i32 c
is_event_of devices (event.Wait d) = nat_lt d.0 devices
is_event_of devices (event.State d w) = nat_lt d.0 devices
is_event_of devices (event.Begin d k) = nat_lt d.0 devices
is_event_of devices (event.End d k c) = nat_lt d.0 devices && fits_i32 c
is_event_of devices (event.Domain d up n) = nat_lt d.0 devices && fits_u32 n
is_event_of devices (event.Work d act) = nat_lt d.0 devices && is_work_line act
is_event_of devices (event.Timer d act) = nat_lt d.0 devices && is_timer_line act

abbrev pub is_actor_of : ℕ → ℕ → ActorId → Bool
is_actor_of devices callers (Caller c) = nat_lt c callers
is_actor_of devices callers (Work d) = nat_lt d devices
is_actor_of devices callers (Timer d) = nat_lt d devices

-- a line of a plan with so many devices and callers
abbrev pub is_line : ℕ → ℕ → Line → Bool
is_line devices callers line = nat_lt line.time (2 ^ 63) && is_actor_of devices callers line.actor && is_event_of devices line.event

abbrev pub is_line_of : Plan → Line → Bool
is_line_of plan line = is_line (length plan.devices) (length plan.callers) line
