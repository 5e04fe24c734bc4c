-- What is kept of a use while the lines of a run are read (this project's own). Lists of lines have the newest line first.
use Rattle.std.specs.Prelude.{ℕ, Bool, false, ◌||◌, Option, Some, None, option_map, if◌then◌else◌}
use Rattle.std.specs.Option.{option_map_or, option_or}
use Rattle.pm_base.specs.declared.ActorId.TheVariants.{Caller}
use Rattle.pm_expect.specs.Same.{is_same_command}
use Rattle.pm_expect.specs.declared.expectation.Use.{Use}
use Rattle.pm_expect.specs.verdicts.Calls.{call_said, is_in_call}
use Rattle.pm_expect.specs.declared.verdicts.verdict.Lack.{Lack}
use Rattle.pm_model.specs.declared.event.Command.{Command}
use Rattle.pm_model.specs.declared.event.Line.{Line}
use Rattle.pm_model.specs.declared.plan.Plan.{Plan}
use Rattle.pm_model.specs.History.{History}
use Rattle.pm_model.specs.Promises.{is_actor}
use Rattle.pm_model.specs.Views.{Views}
use Rattle.pm_expect.specs.uses.Lacks.{lack_now}
use Rattle.pm_expect.specs.uses.Uses.{first_missed, missed_at}
use Rattle.pm_expect.specs.declared.uses.missing.Missed.{Missed}
use Rattle.pm_expect.specs.declared.uses.watching.Watch.{Watch}

-- of a use after these lines: whether its caller is in a call of its command, and what is missed first
abbrev pub watch_of : Plan → History → Use → Watch
watch_of plan h u = record { expected = u; inside = is_in_call h u.caller u.command; missed = first_missed plan u h }

-- what a line says of the call that caller c is in
abbrev pub said_of : ℕ → Line → Option (Option Command)
said_of c line = if is_actor (Caller c) line.actor then call_said line.event else None

abbrev pub is_inside : Command → Bool → Option (Option Command) → Bool
is_inside command inside (Some call) = option_map_or (is_same_command command) call false
is_inside command inside None = inside

-- what is missed first, with a line of this number that is of a call or isn't
abbrev pub missed_with : ℕ → Bool → Option Lack → Option Missed → Option Missed
missed_with number of_call l missed = option_or missed (if of_call then option_map (missed_at number) l else None)

-- of the same use with a line more of this number, on the views after it
abbrev pub watch_after : Plan → Views → ℕ → Line → Watch → Watch
watch_after plan v number line w =
    let u = w.expected in
    let inside = is_inside u.command w.inside (said_of u.caller line) in
    record { expected = u; inside = inside; missed = missed_with number (w.inside || inside) (lack_now plan v u.dev) w.missed }
