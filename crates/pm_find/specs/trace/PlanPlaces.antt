-- Where a finding stands in the plan's file (this project's own). Lines are counted from 1.
use Rattle.std.specs.Prelude.{ℕ, ◌≡◌, ◌-◌, ◌≤◌, Bool, true, false, ◌&&◌, List, [], ◌++◌, Option, Some, None, Ok, codes, count_by, drop, length, map, nat_eq, slice_get, take, if◌then◌else◌}
use Rattle.std.specs.Option.{option_and_then}
use Rattle.toml_parser.specs.Strings.{quoted, starts_string}
use Rattle.pm_base.specs.declared.ActorId.{ActorId}
use Rattle.pm_base.specs.declared.ActorId.TheVariants.{Caller, Work, Timer}
use Rattle.pm_model.specs.declared.event.Command.{Command}
use Rattle.pm_model.specs.declared.event.Event.{Event}
use Rattle.pm_model.specs.declared.event.Event.TheVariants as event
use Rattle.pm_model.specs.declared.event.Line.{Line}
use Rattle.pm_model.specs.declared.plan.Plan.{Plan}
use Rattle.pm_model.specs.Promises.{is_actor}
use Rattle.pm_script.specs.Command.{command_of}
use Rattle.pm_spans.specs.source.Lines.{place_text}
use Rattle.pm_find.specs.declared.findings.Finding.{Finding}
use Rattle.pm_find.specs.declared.findings.Kind.{Kind}
use Rattle.pm_find.specs.declared.findings.Kind.TheVariants as kind
use Rattle.pm_find.specs.declared.trace.places.Spoken.{Spoken}

abbrev pub is_call : Event → Bool
is_call (event.Call command) = true
is_call _ = false

-- a line calls a command of this caller
abbrev pub calls_of : ℕ → Line → Bool
calls_of c line = is_actor (Caller c) line.actor && is_call line.event

-- the command in which an actor writes the last of these lines: of a caller, as many as it has called up to that line; work items and timers call none
abbrev pub spoken_by : List Line → ActorId → Option Spoken
spoken_by lines (Caller c) = Some (record { caller = c; nth = count_by (calls_of c) lines })
spoken_by lines (Work d) = None
spoken_by lines (Timer d) = None

-- the command in which a line is written, of lines in their order
abbrev pub spoken_at : List Line → ℕ → Option Spoken
spoken_at lines number = option_and_then (λ line. spoken_by (take number lines) line.actor) (slice_get lines (number - 1))

-- what is left on at the end is told of no command
abbrev pub is_of_end : Kind → Bool
is_of_end (kind.LeftOn d by) = true
is_of_end (kind.DomainOn left) = true
is_of_end _ = false

-- the command of which a finding is told
abbrev pub spoken_of : List Line → Finding → Option Spoken
spoken_of lines found = if is_of_end found.kind then None else spoken_at lines found.line

-- a command of a caller's script, counted from 1
abbrev pub spoken_command : Plan → Spoken → Option Command
spoken_command plan spoken = option_and_then (λ row. slice_get row.script (spoken.nth - 1)) (slice_get plan.callers spoken.caller)

-- a TOML string begins at this place of the text, and it is this command over the plan's devices
pub record ShowsCommand (plan : Plan) (text : List ℕ) (at : ℕ) (command : Command) : Type 0 where
  pub within : at ≤ length text
  pub starts : starts_string (drop at text) ≡ true
  pub word : List ℕ
  pub rest : List ℕ
  pub reads : quoted (drop at text) ≡ Some (word, rest)
  pub is : command_of (map (λ row. row.name) plan.devices) word ≡ Ok command

-- The place of that command in the file of the plan, which has this name and text, as it is told behind a finding: that very command of that caller's
-- script stands there. Nothing is told of a finding of no command, or where no place was found.
pub data IsPlaceOf (plan : Plan) (lines : List Line) (file text : List ℕ) (found : Finding) : List ℕ → Type 0 where
  nowhere : IsPlaceOf plan lines file text found []
  there : (spoken : Spoken) → spoken_of lines found ≡ Some spoken → (command : Command) → spoken_command plan spoken ≡ Some command → (at : ℕ) → ShowsCommand plan text at command
      → IsPlaceOf plan lines file text found (codes " (" ++ (place_text file text at ++ codes ")"))
