-- The calls of a run, and when each returns (this project's own). Lists of lines have the oldest line first; lines are counted
-- from 1.
use Rattle.std.specs.Prelude.{ℕ, ◌+◌, List, [], ◌∷◌, ◌++◌, Option, Some, None, nat_eq, if◌then◌else◌}
use Rattle.std.specs.Option.{option_to_list}
use Rattle.pm_base.specs.declared.ActorId.{ActorId}
use Rattle.pm_base.specs.declared.ActorId.TheVariants.{Caller}
use Rattle.pm_model.specs.declared.event.Event.{Event}
use Rattle.pm_model.specs.declared.event.Event.TheVariants as event
use Rattle.pm_model.specs.declared.event.Line.{Line}
use Rattle.pm_lanes.specs.declared.calls.call.Answer.{Answer}
use Rattle.pm_lanes.specs.declared.calls.call.Call.{Call}

-- a caller's next return, where this is it from the line behind this one on
abbrev pub answer_by : ℕ → ℕ → ActorId → Event → Option Answer → Option Answer
answer_by c number (Caller by) (event.Ret helper d code) later = if nat_eq by c then Some (record { line = number; code = code }) else later
answer_by c number _ _ later = later

-- a caller's next return at these lines, the first of which has this number
abbrev pub answer : ℕ → ℕ → List Line → Option Answer
answer c number [] = None
answer c number (line ∷ rest) = answer_by c number line.actor line.event (answer c (number + 1) rest)

-- the call of a line of this number, if it is one of a caller, where these are the next returns behind it
abbrev pub call_by : ℕ → ActorId → Event → (ℕ → Option Answer) → Option Call
call_by number (Caller c) (event.Call command) next = Some (record { caller = c; command = command; line = number; answer = next c })
call_by number _ _ next = None

-- the calls at these lines, the first of which has this number: each with its caller's next return
abbrev pub calls_from : ℕ → List Line → List Call
calls_from number [] = []
calls_from number (line ∷ rest) =
    option_to_list (call_by number line.actor line.event (λ c. answer c (number + 1) rest)) ++ calls_from (number + 1) rest
