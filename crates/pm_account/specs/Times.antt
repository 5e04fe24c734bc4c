-- For how long a device was active, suspended and moving, in milliseconds (this project's own). Lists of lines have the
-- newest line first.
use Rattle.std.specs.Prelude.{ℕ, ◌+◌, ◌-◌, Bool, ◌||◌, [], ◌∷◌, if◌then◌else◌}
use Rattle.pm_base.specs.declared.DevId.{DevId}
use Rattle.pm_base.specs.declared.Status.{Status}
use Rattle.pm_model.specs.declared.event.Line.{Line}
use Rattle.pm_model.specs.Counted.{status_of}
use Rattle.pm_model.specs.Derived.{is_active_status, is_resuming_status, is_suspended_status, is_suspending_status}
use Rattle.pm_model.specs.History.{History}
use Rattle.pm_account.specs.declared.Times.{Times}

-- Suspending or Resuming
abbrev pub is_moving_status : Status → Bool
is_moving_status s = is_suspending_status s || is_resuming_status s

-- from the last of these lines to the next one, where the status of d after that last line is of this kind
abbrev pub stretch : (Status → Bool) → Line → History → DevId → ℕ
stretch kind next [] d = 0
stretch kind next (line ∷ h) d = if kind (status_of (line ∷ h) d) then next.time - line.time else 0

-- over each line but the last, the next line's time less its own where the status of d after it is of this kind
abbrev pub time_in : (Status → Bool) → History → DevId → ℕ
time_in kind [] d = 0
time_in kind (next ∷ h) d = stretch kind next h d + time_in kind h d

abbrev pub earliest : Line → History → ℕ
earliest line [] = line.time
earliest line (before ∷ h) = earliest before h

-- the time of the first line
abbrev pub first_time : History → ℕ
first_time [] = 0
first_time (line ∷ h) = earliest line h

abbrev pub active : History → DevId → ℕ
active h d = time_in is_active_status h d

-- d starts Suspended
abbrev pub suspended : History → DevId → ℕ
suspended h d = time_in is_suspended_status h d + first_time h

abbrev pub moving : History → DevId → ℕ
moving h d = time_in is_moving_status h d

abbrev pub times_of : History → DevId → Times
times_of h d = record { active = active h d; suspended = suspended h d; moving = moving h d }
