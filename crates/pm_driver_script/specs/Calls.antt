-- What a caller calls at a part of a step, what it asks there, and when it may begin (this project's own).
use Rattle.std.specs.Prelude.{ℕ, ℤ, ◌+◌, ◌≤◌, List, Option, Some, None, length, nat_eq, pos, position, unwrap_or, if◌then◌else◌}
use Rattle.pm_base.specs.declared.DevId.{DevId}
use Rattle.pm_model.specs.NamedList.{place_named}
use Rattle.pm_model.specs.declared.event.Command.{Command}
use Rattle.pm_model.specs.declared.event.Helper.{Helper}
use Rattle.pm_model.specs.declared.event.Helper.TheVariants as helper
use Rattle.pm_driver_script.specs.Names.{is_same_device}
use Rattle.pm_script.specs.Command.{dev_at}
use Rattle.pm_driver_script.specs.declared.calls.Asked.{Asked}
use Rattle.pm_driver_script.specs.declared.calls.Guard.{Guard}
use Rattle.pm_driver_script.specs.declared.calls.Guard.TheVariants as guard
use Rattle.pm_driver_script.specs.declared.names.ScriptNames.{ScriptNames}
use Rattle.pm_driver_text.specs.declared.verbs.Question.TheVariants as question
use Rattle.pm_driver_text.specs.declared.whats.StepWhat.{StepWhat}
use Rattle.pm_driver_text.specs.declared.whats.StepWhat.TheVariants as what

-- as many names as a file may have
pub record FewNames (names : ScriptNames) : Type 0 where
  pub devices : names.devices ≤ 1024
  pub forced : length names.forced ≤ 64
  pub flags : length names.flags ≤ 1024
  pub marks : length names.marks ≤ 64
  pub locks : length names.locks ≤ 64
  pub callers : length names.callers ≤ 16

abbrev pub call_of : Helper → DevId → Command
call_of h dev = record { helper = h; dev = dev; number = pos 0 }

abbrev pub delay_of : ℤ → Command
delay_of ms = record { helper = helper.Delay; dev = dev_at 0; number = ms }

-- a flag is a device behind those of the file, which is never enabled
abbrev pub flag_device : ScriptNames → List ℕ → DevId
flag_device names flag = dev_at (names.devices + unwrap_or (place_named flag names.flags) 0)

-- a device that is resumed by force has a flag: the first flags are those of these devices
abbrev pub force_place : ScriptNames → DevId → Option ℕ
force_place names dev = position (is_same_device dev) names.forced

abbrev pub force_flag : ScriptNames → DevId → DevId
force_flag names dev = dev_at (names.devices + unwrap_or (force_place names dev) 0)

-- force_suspend: disable; a question; set_suspended; and for a device that is resumed by force, before that another question and
-- its flag
abbrev pub suspend_command : DevId → DevId → ℕ → Command
suspend_command dev flag part =
    if nat_eq part 0 then call_of helper.Disable dev
    else if nat_eq part 2 then call_of helper.SetSuspended dev
    else if nat_eq part 4 then call_of helper.SetActive flag
    else delay_of (pos 0)

-- force_resume: a question; set_active; its flag; enable
abbrev pub resume_command : DevId → DevId → ℕ → Command
resume_command dev flag part =
    if nat_eq part 0 then delay_of (pos 0)
    else if nat_eq part 1 then call_of helper.SetActive dev
    else if nat_eq part 2 then call_of helper.SetSuspended flag
    else call_of helper.Enable dev

-- what is no helper's call is a delay of 0
abbrev pub command_at : ScriptNames → StepWhat → ℕ → Command
command_at names (what.Call command) part = command
command_at names (what.ResumeAndGet dev) part = if nat_eq part 0 then call_of helper.GetSync dev else call_of helper.PutNoidle dev
command_at names (what.Touch dev ms) part = delay_of ms
command_at names (what.Set flag) part = call_of helper.SetActive (flag_device names flag)
command_at names (what.Clear flag) part = call_of helper.SetSuspended (flag_device names flag)
command_at names (what.ForceSuspend dev) part = suspend_command dev (force_flag names dev) part
command_at names (what.ForceResume dev) part = resume_command dev (force_flag names dev) part
command_at names w part = delay_of (pos 0)

-- whether the device is active, and whether a resume by force makes it so again
abbrev pub suspend_asks : DevId → ℕ → Option Asked
suspend_asks dev part =
    if nat_eq part 1 then Some (record { question = question.StillActive; dev = dev })
    else if nat_eq part 3 then Some (record { question = question.NeedsResume; dev = dev })
    else None

abbrev pub resume_asks : DevId → ℕ → Option Asked
resume_asks flag part = if nat_eq part 0 then Some (record { question = question.StillActive; dev = flag }) else None

abbrev pub asks_at : ScriptNames → StepWhat → ℕ → Option Asked
asks_at names (what.Ask q dev) part = Some (record { question = q; dev = dev })
asks_at names (what.AskFlag flag) part = Some (record { question = question.StillActive; dev = flag_device names flag })
asks_at names (what.ForceSuspend dev) part = suspend_asks dev part
asks_at names (what.ForceResume dev) part = resume_asks (force_flag names dev) part
asks_at names w part = None

abbrev pub guard_at : ScriptNames → StepWhat → ℕ → Guard
guard_at names (what.Lock name) part = guard.Free (unwrap_or (place_named name names.locks) 0)
guard_at names (what.Wait flag set) part = guard.Flag (flag_device names flag) set
guard_at names (what.Stop callers) part = if nat_eq part 1 then guard.Stopped else guard.Open
guard_at names w part = guard.Open

-- the device that a step uses
abbrev pub touched_by : StepWhat → Option DevId
touched_by (what.Touch dev ms) = Some dev
touched_by w = None
