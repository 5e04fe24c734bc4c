-- Reading a line, from left to right, as the functions of src/ do it. What this has to do with the texts of lines is
-- no part of it: that is proved of it, and the contracts of read_line and read_line2 say it.
use Rattle.std.specs.Prelude.{ℕ, ◌+◌, ◌-◌, ◌^◌, Bool, true, false, List, [], Result, Ok, Err, ℤ, pos, negsuc, codes, length, nat_eq, nat_lt, if◌then◌else◌}
use Rattle.pm_base.specs.declared.ActorId.{ActorId}
use Rattle.pm_base.specs.declared.ActorId.TheVariants.{Caller, Work, Timer}
use Rattle.pm_base.specs.declared.Cb.{Cb}
use Rattle.pm_base.specs.declared.DevId.{DevId}
use Rattle.pm_base.specs.declared.Req.{Req}
use Rattle.pm_base.specs.declared.Req.TheVariants as req
use Rattle.pm_base.specs.declared.Why.{Why}
use Rattle.pm_base.specs.declared.Why.TheVariants as why
use Rattle.pm_linetext.specs.Words.{all_cbs, all_helpers, all_reqs, all_statuses}
use Rattle.pm_model.specs.Spelling.{Names, operand_of, takes_device}
use Rattle.pm_model.specs.declared.event.Command.{Command}
use Rattle.pm_model.specs.declared.event.Event.{Event}
use Rattle.pm_model.specs.declared.event.Event.TheVariants as event
use Rattle.pm_model.specs.declared.event.Fields.{Fields}
use Rattle.pm_model.specs.declared.event.Helper.{Helper}
use Rattle.pm_model.specs.declared.event.Helper.TheVariants as helper
use Rattle.pm_model.specs.declared.event.Line.{Line}
use Rattle.pm_model.specs.declared.event.Operand.{Operand}
use Rattle.pm_model.specs.declared.event.Operand.TheVariants as operand
use Rattle.pm_model.specs.declared.event.TimerAct.{TimerAct}
use Rattle.pm_model.specs.declared.event.TimerAct.TheVariants as timer
use Rattle.pm_model.specs.declared.event.WorkAct.{WorkAct}
use Rattle.pm_model.specs.declared.event.WorkAct.TheVariants as work
use Rattle.pm_names.specs.Words.{cb_words, event_words, helper_words, req_words, status_words}
use Rattle.pm_lineread.specs.Kinds.{all_kinds}
use Rattle.pm_lineread.specs.Pieces.{◌>>=◌, either_of, ended, item_at, literal_at, number_at, place_at}
use Rattle.pm_lineread.specs.declared.kinds.Kind.{Kind}
use Rattle.pm_lineread.specs.declared.kinds.Kind.TheVariants as kind

-- a device, by the place of its name, and a caller
unfoldable pub device_at : Names → List ℕ → Result (ℕ × List ℕ) ℕ
device_at names bytes = place_at names.devices 32 bytes

unfoldable pub caller_at : Names → List ℕ → Result (ℕ × List ℕ) ℕ
caller_at names bytes = place_at names.callers 32 bytes

-- a number of 32 bits, and what follows it
unfoldable pub count_at : List ℕ → Result (ℕ × List ℕ) ℕ
count_at bytes = number_at 10 0 (2 ^ 32 - 1) 32 bytes

-- this word and no more
unfoldable pub word_at : {A : Type 0} → List ℕ → A → List ℕ → Result A ℕ
word_at word x bytes = do
  rest ← literal_at word bytes
  ended x rest

-- a signed number from -half to half - 1, and no more
unfoldable pub negative_at : ℕ → List ℕ → Result ℤ ℕ
negative_at half bytes = do
  rest ← literal_at (codes "-") bytes
  n ← number_at 10 1 half 32 rest
  ended (negsuc (n.0 - 1)) n.1

unfoldable pub positive_at : ℕ → List ℕ → Result ℤ ℕ
positive_at half bytes = do
  n ← number_at 10 0 (half - 1) 32 bytes
  ended (pos n.0) n.1

unfoldable pub signed_at : ℕ → List ℕ → Result ℤ ℕ
signed_at half bytes = either_of (negative_at half bytes) (positive_at half bytes)

-- what a helper takes besides its device
unfoldable pub supplier_at : Names → List ℕ → Result ℤ ℕ
supplier_at names bytes = do
  rest ← literal_at (codes " ") bytes
  d ← device_at names rest
  ended (pos d.0) d.1

unfoldable pub milliseconds_at : List ℕ → Result ℤ ℕ
milliseconds_at bytes = do
  rest ← literal_at (codes " ") bytes
  signed_at (2 ^ 63) rest

unfoldable pub switch_at : List ℕ → Result ℤ ℕ
switch_at bytes = either_of (word_at (codes " off") (pos 0) bytes) (word_at (codes " on") (pos 1) bytes)

unfoldable pub operand_at : Names → Operand → List ℕ → Result ℤ ℕ
operand_at names operand.Nothing bytes = ended (pos 0) bytes
operand_at names operand.Milliseconds bytes = milliseconds_at bytes
operand_at names operand.Switch bytes = switch_at bytes
operand_at names operand.Supplier bytes = supplier_at names bytes

unfoldable pub command_of : Names → Helper → DevId → List ℕ → Result Command ℕ
command_of names h d bytes = do
  n ← operand_at names (operand_of h) bytes
  Ok (record { helper = h; dev = d; number = n })

unfoldable pub device_command_at : Names → Helper → List ℕ → Result Command ℕ
device_command_at names h bytes = do
  rest ← literal_at (codes " ") bytes
  d ← device_at names rest
  command_of names h (record { 0 = d.0 }) d.1

unfoldable pub helper_at : List ℕ → Result (Helper × List ℕ) ℕ
helper_at bytes = item_at helper_words all_helpers 32 bytes

unfoldable pub call_at : Names → List ℕ → Result Event ℕ
call_at names bytes = do
  h ← helper_at bytes
  c ← if takes_device h.0 then device_command_at names h.0 h.1 else command_of names h.0 (record { 0 = 0 }) h.1
  Ok (event.Call c)

unfoldable pub device_ret_at : Names → Helper → List ℕ → Result Event ℕ
device_ret_at names h bytes = do
  rest ← literal_at (codes " ") bytes
  d ← device_at names rest
  rest ← literal_at (codes " ") d.1
  c ← signed_at (2 ^ 31) rest
  Ok (event.Ret h (record { 0 = d.0 }) c)

unfoldable pub ret_at : Names → List ℕ → Result Event ℕ
ret_at names bytes = do
  h ← helper_at bytes
  if takes_device h.0 then device_ret_at names h.0 h.1 else word_at (codes " 0") (event.Ret h.0 (record { 0 = 0 }) (pos 0)) h.1

-- why a usage count is held
unfoldable pub child_at : Names → List ℕ → Result Why ℕ
child_at names bytes = do
  rest ← literal_at (codes "child ") bytes
  d ← device_at names rest
  ended (why.Child (record { 0 = d.0 })) d.1

unfoldable pub link_at : Names → List ℕ → Result Why ℕ
link_at names bytes = do
  rest ← literal_at (codes "link ") bytes
  d ← device_at names rest
  ended (why.Link (record { 0 = d.0 })) d.1

unfoldable pub why_at : Names → List ℕ → Result Why ℕ
why_at names bytes =
    either_of (word_at (codes "caller") why.Caller bytes)
    (either_of (word_at (codes "control") why.Control bytes)
    (either_of (word_at (codes "forbid") why.Forbid bytes)
    (either_of (word_at (codes "delay") why.Delay bytes)
    (either_of (child_at names bytes) (link_at names bytes)))))

unfoldable pub get_at : Names → List ℕ → Result Event ℕ
get_at names bytes = do
  d ← device_at names bytes
  rest ← literal_at (codes " ") d.1
  w ← why_at names rest
  Ok (event.Get (record { 0 = d.0 }) w)

unfoldable pub put_at : Names → List ℕ → Result Event ℕ
put_at names bytes = do
  d ← device_at names bytes
  rest ← literal_at (codes " ") d.1
  w ← why_at names rest
  Ok (event.Put (record { 0 = d.0 }) w)

-- what pads a count on the right to two places
unfoldable pub padding : ℕ → List ℕ
padding n = if nat_lt n 10 then codes " " else []

unfoldable pub bit_at : List ℕ → Result (ℕ × List ℕ) ℕ
bit_at bytes = number_at 10 0 1 32 bytes

unfoldable pub states_at : ℕ → ℕ → ℕ → List ℕ → Result Fields ℕ
states_at flags cnt dep bytes = do
  auto_on ← bit_at bytes
  rest ← literal_at (codes " p-") auto_on.1
  pending ← bit_at rest
  rest ← literal_at (codes " irq-0 child-") pending.1
  child ← count_at rest
  ended (record { flags = flags; cnt = cnt; dep = dep; auto_on = nat_eq auto_on.0 1; pending = nat_eq pending.0 1; child = child.0 }) child.1

unfoldable pub fields_at : List ℕ → Result Fields ℕ
fields_at bytes = do
  rest ← literal_at (codes " flags-") bytes
  flags ← number_at 16 0 255 32 rest
  rest ← literal_at (codes " cnt-") flags.1
  cnt ← count_at rest
  rest ← literal_at (padding cnt.0) cnt.1
  rest ← literal_at (codes " dep-") rest
  dep ← count_at rest
  rest ← literal_at (padding dep.0) dep.1
  rest ← literal_at (codes " auto-") rest
  states_at flags.0 cnt.0 dep.0 rest

-- a device and the fields of its payload
unfoldable pub payload_at : Names → List ℕ → Result (DevId × Fields) ℕ
payload_at names bytes = do
  d ← device_at names bytes
  f ← fields_at d.1
  Ok (record { 0 = d.0 }, f)

unfoldable pub usage_at : Names → List ℕ → Result Event ℕ
usage_at names bytes = do
  p ← payload_at names bytes
  Ok (event.Usage p.0 p.1)

unfoldable pub idle_at : Names → List ℕ → Result Event ℕ
idle_at names bytes = do
  p ← payload_at names bytes
  Ok (event.Idle p.0 p.1)

unfoldable pub suspend_at : Names → List ℕ → Result Event ℕ
suspend_at names bytes = do
  p ← payload_at names bytes
  Ok (event.Suspend p.0 p.1)

unfoldable pub resume_at : Names → List ℕ → Result Event ℕ
resume_at names bytes = do
  p ← payload_at names bytes
  Ok (event.Resume p.0 p.1)

unfoldable pub return_at : Names → List ℕ → Result Event ℕ
return_at names bytes = do
  rest ← literal_at (codes "rpm_") bytes
  func ← item_at cb_words all_cbs 58 rest
  rest ← literal_at (codes ":") func.1
  d ← device_at names rest
  rest ← literal_at (codes " ret=") d.1
  c ← signed_at (2 ^ 31) rest
  Ok (event.Return func.0 (record { 0 = d.0 }) c)

unfoldable pub wait_at : Names → List ℕ → Result Event ℕ
wait_at names bytes = do
  d ← device_at names bytes
  ended (event.Wait (record { 0 = d.0 })) d.1

unfoldable pub state_at : Names → List ℕ → Result Event ℕ
state_at names bytes = do
  d ← device_at names bytes
  rest ← literal_at (codes " ") d.1
  w ← item_at status_words all_statuses 32 rest
  ended (event.State (record { 0 = d.0 }) w.0) w.1

unfoldable pub end_at : DevId → Cb → List ℕ → Result Event ℕ
end_at d k bytes = do
  rest ← literal_at (codes " end ") bytes
  c ← signed_at (2 ^ 31) rest
  Ok (event.End d k c)

unfoldable pub callback_at : Names → List ℕ → Result Event ℕ
callback_at names bytes = do
  d ← device_at names bytes
  rest ← literal_at (codes " ") d.1
  k ← item_at cb_words all_cbs 32 rest
  either_of (word_at (codes " begin") (event.Begin (record { 0 = d.0 }) k.0) k.1) (end_at (record { 0 = d.0 }) k.0 k.1)

unfoldable pub switched_at : List ℕ → Bool → DevId → List ℕ → Result Event ℕ
switched_at word up d bytes = do
  rest ← literal_at word bytes
  n ← count_at rest
  ended (event.Domain d up n.0) n.1

unfoldable pub domain_at : Names → List ℕ → Result Event ℕ
domain_at names bytes = do
  d ← device_at names bytes
  either_of (switched_at (codes " up ") true (record { 0 = d.0 }) d.1) (switched_at (codes " down ") false (record { 0 = d.0 }) d.1)

-- a request, which isn't none
unfoldable pub queued_at : List ℕ → Result Req ℕ
queued_at bytes =
    either_of (word_at (codes "idle") req.Idle bytes)
    (either_of (word_at (codes "suspend") req.Suspend bytes)
    (either_of (word_at (codes "autosuspend") req.Autosuspend bytes) (word_at (codes "resume") req.Resume bytes)))

unfoldable pub queue_at : List ℕ → Result WorkAct ℕ
queue_at bytes = do
  rest ← literal_at (codes "queue ") bytes
  r ← queued_at rest
  Ok (work.Queue r)

unfoldable pub run_at : List ℕ → Result WorkAct ℕ
run_at bytes = do
  rest ← literal_at (codes "run ") bytes
  r ← item_at req_words all_reqs 32 rest
  ended (work.Run r.0) r.1

unfoldable pub act_at : List ℕ → Result WorkAct ℕ
act_at bytes = either_of (queue_at bytes) (either_of (word_at (codes "defer") work.Defer bytes) (run_at bytes))

unfoldable pub work_at : Names → List ℕ → Result Event ℕ
work_at names bytes = do
  d ← device_at names bytes
  rest ← literal_at (codes " ") d.1
  act ← act_at rest
  Ok (event.Work (record { 0 = d.0 }) act)

unfoldable pub timer_kind_at : List ℕ → Result Bool ℕ
timer_kind_at bytes = either_of (word_at (codes "auto") true bytes) (word_at (codes "plain") false bytes)

unfoldable pub arm_at : List ℕ → Result TimerAct ℕ
arm_at bytes = do
  rest ← literal_at (codes "arm ") bytes
  moment ← number_at 10 0 (2 ^ 64 - 1) 32 rest
  rest ← literal_at (codes " ") moment.1
  autosuspends ← timer_kind_at rest
  Ok (timer.Arm moment.0 autosuspends)

unfoldable pub fire_at : List ℕ → Result TimerAct ℕ
fire_at bytes = do
  rest ← literal_at (codes "fire ") bytes
  autosuspends ← timer_kind_at rest
  Ok (timer.Fire autosuspends)

unfoldable pub timer_at : Names → List ℕ → Result Event ℕ
timer_at names bytes = do
  d ← device_at names bytes
  rest ← literal_at (codes " ") d.1
  act ← either_of (arm_at rest) (fire_at rest)
  Ok (event.Timer (record { 0 = d.0 }) act)

-- what follows an event's word, its colon and a space
unfoldable pub event_of : Names → Kind → List ℕ → Result Event ℕ
event_of names kind.Call bytes = call_at names bytes
event_of names kind.Ret bytes = ret_at names bytes
event_of names kind.Get bytes = get_at names bytes
event_of names kind.Put bytes = put_at names bytes
event_of names kind.Usage bytes = usage_at names bytes
event_of names kind.Idle bytes = idle_at names bytes
event_of names kind.Suspend bytes = suspend_at names bytes
event_of names kind.Resume bytes = resume_at names bytes
event_of names kind.Return bytes = return_at names bytes
event_of names kind.Wait bytes = wait_at names bytes
event_of names kind.State bytes = state_at names bytes
event_of names kind.Callback bytes = callback_at names bytes
event_of names kind.Domain bytes = domain_at names bytes
event_of names kind.Work bytes = work_at names bytes
event_of names kind.Timer bytes = timer_at names bytes

unfoldable pub any_event_at : Names → List ℕ → Result Event ℕ
any_event_at names bytes = do
  k ← item_at event_words all_kinds 58 bytes
  rest ← literal_at (codes ": ") k.1
  event_of names k.0 rest

-- the two events that name no device
unfoldable pub delay_call_at : List ℕ → Result Event ℕ
delay_call_at bytes = do
  rest ← literal_at (codes "pm_call: delay ") bytes
  n ← signed_at (2 ^ 63) rest
  Ok (event.Call (record { helper = helper.Delay; dev = record { 0 = 0 }; number = n }))

unfoldable pub delay_at : List ℕ → Result Event ℕ
delay_at bytes =
    either_of (delay_call_at bytes) (word_at (codes "pm_ret: delay 0") (event.Ret helper.Delay (record { 0 = 0 }) (pos 0)) bytes)

-- over a plan with no device no other event has a text
unfoldable pub event_at : Names → List ℕ → Result Event ℕ
event_at names bytes = if nat_eq (length names.devices) 0 then delay_at bytes else any_event_at names bytes

unfoldable pub step_of : Names → ActorId → List ℕ → Result (ActorId × Event) ℕ
step_of names actor bytes = do
  rest ← literal_at (codes " ") bytes
  e ← event_at names rest
  Ok (actor, e)

unfoldable pub caller_step_at : Names → List ℕ → Result (ActorId × Event) ℕ
caller_step_at names bytes = do
  c ← caller_at names bytes
  step_of names (Caller c.0) c.1

unfoldable pub device_step_at : Names → List ℕ → (ℕ → ActorId) → List ℕ → Result (ActorId × Event) ℕ
device_step_at names word make bytes = do
  rest ← literal_at word bytes
  d ← device_at names rest
  step_of names (make d.0) d.1

-- an actor and an event
unfoldable pub step_at : Names → List ℕ → Result (ActorId × Event) ℕ
step_at names bytes =
    if nat_eq (length names.devices) 0
    then caller_step_at names bytes
    else either_of (device_step_at names (codes "work.") Work bytes)
    (either_of (device_step_at names (codes "timer.") Timer bytes) (caller_step_at names bytes))

-- a line whose time is given since base
unfoldable pub some_line_at : Names → ℕ → List ℕ → Result Line ℕ
some_line_at names base bytes = do
  since ← number_at 10 0 (2 ^ 63 - 1 - base) 32 bytes
  rest ← literal_at (codes " ") since.1
  step ← step_at names rest
  Ok (record { time = base + since.0; actor = step.0; event = step.1 })

-- over a plan with no actor no line has a text
unfoldable pub line_at : Names → ℕ → List ℕ → Result Line ℕ
line_at names base bytes =
    if nat_eq (length names.devices) 0
    then (if nat_eq (length names.callers) 0 then Err (length bytes) else some_line_at names base bytes)
    else some_line_at names base bytes
