-- The calls of a caller that have returned (this project's own). Lists of lines have the newest first.
use Rattle.std.specs.Prelude.{ℕ, ℤ, Bool, false, List, [], ◌∷◌, ◌++◌, Option, Some, None, nat_eq, option_map, if◌then◌else◌}
use Rattle.std.specs.Option.{option_and_then, option_or, option_to_list}
use Rattle.pm_base.specs.declared.ActorId.{ActorId}
use Rattle.pm_base.specs.declared.ActorId.TheVariants.{Caller}
use Rattle.pm_model.specs.declared.event.Command.{Command}
use Rattle.pm_model.specs.declared.event.Event.{Event}
use Rattle.pm_model.specs.declared.event.Event.TheVariants as event
use Rattle.pm_model.specs.declared.event.Line.{Line}
use Rattle.pm_desk.specs.declared.pass.Receipt.{Receipt}

abbrev pub is_by : ℕ → ActorId → Bool
is_by c (Caller k) = nat_eq k c
is_by c _ = false

abbrev pub command_in : Event → Option Command
command_in (event.Call command) = Some command
command_in _ = None

abbrev pub code_in : Event → Option ℤ
code_in (event.Ret helper dev code) = Some code
code_in _ = None

-- the command that this caller calls with this line, and the code that it returns with it
abbrev pub called_in : ℕ → Line → Option Command
called_in c line = if is_by c line.actor then command_in line.event else None

abbrev pub returned_in : ℕ → Line → Option ℤ
returned_in c line = if is_by c line.actor then code_in line.event else None

-- the command that this caller called last
abbrev pub last_call : ℕ → List Line → Option Command
last_call c [] = None
last_call c (line ∷ h) = option_or (called_in c line) (last_call c h)

-- with this line a command returns that this caller called last
abbrev pub receipt_of : ℕ → Line → Option Command → Option Receipt
receipt_of c line last = option_and_then (λ command. option_map (λ code. record { command = command; code = code }) (returned_in c line)) last

-- the commands of this caller that have a `pm_ret` line, each with its code, in order
abbrev pub calls : List Line → ℕ → List Receipt
calls [] c = []
calls (line ∷ h) c = calls h c ++ option_to_list (receipt_of c line (last_call c h))
