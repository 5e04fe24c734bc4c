-- The calls of callers, and which of them have returned (this project's own). Lists of lines have the newest line first; lines
-- are counted from 1.
use Rattle.std.specs.Prelude.{◌≡◌, ◌<◌, ℕ, ℤ, ◌+◌, Bool, false, List, [], ◌∷◌, ◌++◌, Option, Some, None, length, option_map, slice_index_or, slice_set, if◌then◌else◌}
use Rattle.std.specs.Option.{option_and_then, option_map_or, option_to_list}
use Rattle.pm_base.specs.declared.ActorId.{ActorId}
use Rattle.pm_base.specs.declared.ActorId.TheVariants.{Caller, Work, Timer}
use Rattle.pm_expect.specs.Same.{is_same_command}
use Rattle.pm_model.specs.declared.event.Command.{Command}
use Rattle.pm_model.specs.declared.event.Event.{Event}
use Rattle.pm_model.specs.declared.event.Event.TheVariants as event
use Rattle.pm_model.specs.declared.event.Line.{Line}
use Rattle.pm_model.specs.History.{History, last_said}
use Rattle.pm_model.specs.Promises.{is_actor}
use Rattle.pm_expect.specs.declared.verdicts.calls.Return.{Return}

-- what an event says of the call that its caller is in: a call begins one, and a return ends it
abbrev pub call_said : Event → Option (Option Command)
call_said (event.Call command) = Some (Some command)
call_said (event.Ret h d code) = Some None
call_said _ = None

-- the call that a caller is in
abbrev pub open_call : History → ℕ → Option Command
open_call h c = last_said (λ g line. if is_actor (Caller c) line.actor then call_said line.event else None) None h

-- a caller is in a call of this command
abbrev pub is_in_call : History → ℕ → Command → Bool
is_in_call h c command = option_map_or (is_same_command command) (open_call h c) false

abbrev pub code_said : Event → Option ℤ
code_said (event.Ret h d code) = Some code
code_said _ = None

-- the return of the call that a caller is in, with this event in a line of this number
abbrev pub return_in : ℕ → Option Command → ℕ → Event → Option Return
return_in number called c e =
    option_and_then (λ command. option_map (λ code. record { caller = c; command = command; line = number; code = code }) (code_said e)) called

abbrev pub return_by : History → ActorId → ℕ → Event → Option Return
return_by h (Caller c) number e = return_in number (open_call h c) c e
return_by h (Work d) number e = None
return_by h (Timer d) number e = None

-- the calls that have returned, in order
abbrev pub returns : History → List Return
returns [] = []
returns (line ∷ h) = returns h ++ option_to_list (return_by h line.actor (length h + 1) line.event)

-- the call that each of so many callers is in
pub record AreCalls (callers : ℕ) (h : History) (calls : List (Option Command)) : Type 0 where
  pub entries : length calls ≡ callers
  pub each : (c : ℕ) → c < callers → slice_index_or calls c None ≡ open_call h c

-- what is said of a call is said of its caller's
abbrev pub calls_after : ActorId → Option (Option Command) → List (Option Command) → List (Option Command)
calls_after (Caller c) said calls = option_map_or (λ call. slice_set calls c call) said calls
calls_after (Work d) said calls = calls
calls_after (Timer d) said calls = calls

abbrev pub returned_by : List (Option Command) → ActorId → ℕ → Event → Option Return
returned_by calls (Caller c) number e = return_in number (slice_index_or calls c None) c e
returned_by calls (Work d) number e = None
returned_by calls (Timer d) number e = None

abbrev pub returned_at : List (Option Command) → ℕ → Line → Option Return
returned_at calls number line = returned_by calls line.actor number line.event
