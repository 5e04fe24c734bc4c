-- What the lines last said of a device and of a caller (this project's own). Lists of lines have the newest line first;
-- lines are counted from 1.
use Rattle.std.specs.Prelude.{ℕ, ◌+◌, Bool, true, false, not, ◌&&◌, ◌||◌, [], ◌∷◌, nat_le, Option, Some, None, ℤ, pos, int_lt, length, option_map, if◌then◌else◌}
use Rattle.std.specs.Option.{option_map_or}
use Rattle.std.specs.Ordering.{int_eq}
use Rattle.pm_base.specs.declared.ActorId.{ActorId}
use Rattle.pm_base.specs.declared.ActorId.TheVariants.{Caller, Work, Timer}
use Rattle.pm_base.specs.declared.DevId.{DevId}
use Rattle.pm_base.specs.declared.Why.TheVariants as why
use Rattle.pm_model.specs.declared.event.Event.{Event}
use Rattle.pm_model.specs.declared.event.Event.TheVariants as event
use Rattle.pm_model.specs.declared.event.Helper.{Helper}
use Rattle.pm_model.specs.declared.event.Helper.TheVariants as helper
use Rattle.pm_model.specs.Counted.{is_same, only_if, says_error, status_of}
use Rattle.pm_model.specs.Derived.{is_active_status}
use Rattle.pm_model.specs.History.{History, last_said}
use Rattle.pm_model.specs.Promises.{is_actor}
use Rattle.pm_find.specs.declared.findings.watched.Called.{Called}
use Rattle.pm_find.specs.declared.findings.watched.Recent.{Recent}

-- what is kept of a caller before its first call
abbrev pub no_recent : Recent
no_recent = record { denied = None; used = 0; until = 0 }

abbrev pub recent_of : Option Called → Recent
recent_of before = option_map_or (λ call. call.recent) before no_recent

-- the same call, which has put a count
abbrev pub with_put : Called → Called
with_put call = record call { has_put = true }

abbrev pub with_recent : (Recent → Recent) → Called → Called
with_recent change call = record call { recent = change call.recent }

-- a delay of the caller has ended in this line, at this time
abbrev pub with_use : ℕ → ℕ → Recent → Recent
with_use number time recent = record recent { used = number; until = time }

-- the caller has set up autosuspend, and used no device since
abbrev pub with_setup : Recent → Recent
with_setup recent = record recent { used = 0 }

-- a get that takes a count only of a device that is on answered this code
abbrev pub with_denial : DevId → ℤ → Recent → Recent
with_denial d code recent = record recent { denied = if int_lt code (pos 0) then Some d else None }

-- what the return of a call, in this line and at this time, makes of what is kept of its caller
abbrev pub recent_after : ℕ → ℕ → Helper → DevId → ℤ → Recent → Recent
recent_after number time helper.Delay d code recent = with_use number time recent
recent_after number time helper.UseAutosuspend d code recent = with_setup recent
recent_after number time helper.SetAutosuspendDelay d code recent = with_setup recent
recent_after number time helper.GetIfActive d code recent = with_denial d code recent
recent_after number time helper.GetIfInUse d code recent = with_denial d code recent
recent_after number time _ d code recent = recent

-- what an event of a caller, in a line of this number and time, makes of its last call
abbrev pub called_after : ℕ → ℕ → Event → Option Called → Option Called
called_after number time (event.Call command) before =
    Some (record { helper = command.helper; line = number; has_put = false; recent = recent_of before })
called_after number time (event.Put d why.Caller) before = option_map with_put before
called_after number time (event.Ret h d code) before = option_map (with_recent (recent_after number time h d code)) before
called_after number time _ before = before

-- the last call of this caller, whether it has put a count since, and what is kept of the caller
abbrev pub call_of : History → ℕ → Option Called
call_of [] c = None
call_of (line ∷ h) c = if is_actor (Caller c) line.actor then called_after (length h + 1) line.time line.event (call_of h c) else call_of h c

-- the last call of this actor: work items and timers call none
abbrev pub call_by : History → ActorId → Option Called
call_by h (Caller c) = call_of h c
call_by h (Work d) = None
call_by h (Timer d) = None

-- the helpers that take a count and ask for no resume
abbrev pub is_noresume : Helper → Bool
is_noresume helper.GetNoresume = true
is_noresume _ = false

-- whether the get of this call asks for a resume
abbrev pub has_asked : Option Called → Bool
has_asked called = option_map_or (λ call. not (is_noresume call.helper)) called true

-- the line that stored the error of d, or 0 where none is stored
abbrev pub error_line : History → DevId → ℕ
error_line h d = last_said (λ g line. option_map (λ code. if int_eq code (pos 0) then 0 else length g + 1) (says_error d line.event)) 0 h

-- a callback of d ended with another code than 0
abbrev pub fails : DevId → Event → Bool
fails d (event.End e cb code) = is_same d e && not (int_eq code (pos 0))
fails d _ = false

-- the last line in which a callback of d failed, or 0
abbrev pub failed_line : History → DevId → ℕ
failed_line h d = last_said (λ g line. only_if (fails d line.event) (length g + 1)) 0 h

-- the last line after which d was Active no more, or 0
abbrev pub left_line : History → DevId → ℕ
left_line h d = last_said (λ g line. only_if (is_active_status (status_of g d) && not (is_active_status (status_of (line ∷ g) d))) (length g + 1)) 0 h

-- d was Active after one of the lines from this one on
abbrev pub was_on : ℕ → History → DevId → Bool
was_on from [] d = false
was_on from (line ∷ h) d = (nat_le from (length h + 1) && is_active_status (status_of (line ∷ h) d)) || was_on from h d
