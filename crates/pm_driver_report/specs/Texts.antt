-- The text of what is reported of a driver (this project's own).
use Rattle.std.specs.Prelude.{ℕ, ◌+◌, ◌-◌, ◌^◌, Bool, true, false, ◌&&◌, List, [], ◌∷◌, ◌++◌, codes, decimal, length, min, nat_eq, nat_le, if◌then◌else◌}
use Rattle.std.specs.List.{list_any}
use Rattle.std.specs.Option.{option_map_or}
use Rattle.pm_base.specs.declared.DevId.{DevId}
use Rattle.pm_driver_find.specs.declared.sights.DriverSight.{DriverSight}
use Rattle.pm_driver_find.specs.declared.sights.DriverSight.TheVariants as sight
use Rattle.pm_driver_find.specs.declared.sights.ProbeSetting.{ProbeSetting}
use Rattle.pm_driver_find.specs.declared.sights.ProbeSetting.TheVariants as setting
use Rattle.pm_driver_read.specs.declared.driver.Driver.{Driver}
use Rattle.pm_driver_script.specs.declared.program.ProgramPlace.{ProgramPlace}
use Rattle.pm_explore.specs.declared.schedule.Pace.{Pace}
use Rattle.pm_explore.specs.declared.schedule.Pace.TheVariants as pace
use Rattle.pm_explore.specs.declared.search.found.Ended.{Ended}
use Rattle.pm_explore.specs.declared.search.found.Ended.TheVariants as ended
use Rattle.pm_find.specs.text.Texts.{code_text}
use Rattle.pm_model.specs.Spelling.{caller_name, command_text, device_name}
use Rattle.pm_model.specs.Text.{names_of}
use Rattle.pm_driver_report.specs.Follows.{is_same_pace}
use Rattle.pm_driver_report.specs.Lines.{program_place}
use Rattle.pm_driver_report.specs.declared.lines.DriverKind.{DriverKind}
use Rattle.pm_driver_report.specs.declared.lines.DriverKind.TheVariants as kind
use Rattle.pm_driver_report.specs.declared.lines.DriverLine.{DriverLine}
use Rattle.pm_driver_report.specs.declared.passes.DriverPass.{DriverPass}

abbrev pub kind_word : DriverKind → List ℕ
kind_word kind.Disabled = codes "disabled"
kind_word kind.RefusedStatus = codes "refused status"
kind_word kind.Unread = codes "unread"
kind_word kind.RefusedPut = codes "refused put"
kind_word kind.TouchedOff = codes "touched off"
kind_word kind.Hangs = codes "hangs"
kind_word kind.LeftOn = codes "left on"
kind_word kind.Leak = codes "leak"
kind_word kind.LeftEnabled = codes "left enabled"
kind_word kind.LeftForbidden = codes "left forbidden"
kind_word kind.LeftAutosuspend = codes "autosuspend left in use"

-- so many of something
abbrev pub counted : ℕ → List ℕ → List ℕ
counted n word =
    if nat_eq n 0 then codes "no " ++ word
    else if nat_eq n 1 then codes "1 " ++ word
    else decimal n ++ codes " " ++ word ++ codes "s"

-- a call of a caller
abbrev pub call_of : Driver → ℕ → ProgramPlace → List ℕ
call_of d c place = caller_name (names_of d.plan) c ++ codes ": " ++ command_text (names_of d.plan) place.command

abbrev pub call_text : Driver → ℕ → ℕ → List ℕ
call_text d c k = option_map_or (call_of d c) (program_place d c k) []

abbrev pub dev_text : Driver → DevId → List ℕ
dev_text d dev = device_name (names_of d.plan) dev.0

-- what a probe set up stands
abbrev pub setting_text : ProbeSetting → List ℕ
setting_text setting.Enabled = codes " is still enabled where its driver has gone"
setting_text setting.Forbidden = codes " is still forbidden where its driver has gone"
setting_text setting.Autosuspend = codes " still uses autosuspend where its driver has gone"

abbrev pub sight_text : Driver → DriverSight → List ℕ
sight_text d (sight.Answers c k code) = call_text d c k ++ codes " answers " ++ code_text code
sight_text d (sight.FailsUnread c k) = call_text d c k ++ codes " fails, which nobody reads, and the device is used behind it"
sight_text d (sight.PutsNone c k dev) = call_text d c k ++ codes " finds no count to give back"
sight_text d (sight.MeetsOff c k dev) = caller_name (names_of d.plan) c ++ codes ": " ++ dev_text d dev ++ codes " is used while it is off"
sight_text d (sight.Hangs c k) = caller_name (names_of d.plan) c ++ codes " waits here, and nothing more comes"
sight_text d (sight.LeftOn dev) = dev_text d dev ++ codes " is active at the end, and nobody holds it"
sight_text d (sight.Leaks dev kept) = codes "a count of " ++ dev_text d dev ++ codes " is never given back"
sight_text d (sight.LeftSet dev which) = dev_text d dev ++ setting_text which

-- what is wrong
abbrev pub message_text : Driver → DriverLine → List ℕ
message_text d line = kind_word line.kind ++ codes ": " ++ sight_text d line.sight

abbrev pub pace_word : Pace → List ℕ
pace_word pace.Eager = codes "eager"
pace_word pace.Late = codes "late"

-- which finding it is, and how it shows first
abbrev pub shown_text : ℕ → DriverLine → List ℕ
shown_text number line =
    codes "finding " ++ decimal number ++ codes ": " ++ pace_word line.pace ++ codes ", " ++ counted line.preemptions (codes "preemption") ++ codes ", " ++ counted line.failures (codes "failing callback")

-- what was gone through of a pace: all, or rounds of at most 0, 1, .. preemptions
abbrev pub is_whole : Ended → Bool
is_whole ended.Whole = true
is_whole _ = false

abbrev pub rounds_text : List ℕ → ℕ → List ℕ
rounds_text word n =
    if nat_eq n 0 then codes "a part of the " ++ word ++ codes " schedules with no preemption"
    else if nat_eq n 1 then word ++ codes " schedules with no preemption"
    else word ++ codes " schedules with at most " ++ counted (n - 1) (codes "preemption")

-- with so many failing callbacks
abbrev pub failing_text : ℕ → List ℕ
failing_text n = if nat_eq n 0 then codes "no failing callback" else codes "at most " ++ counted n (codes "failing callback")

abbrev pub pass_text : DriverPass → List ℕ
pass_text pass =
    if is_whole pass.all.found.ended then codes "all " ++ pace_word pass.pace ++ codes " schedules with " ++ failing_text pass.failures
    else rounds_text (pace_word pass.pace) (length pass.all.found.rounds.items) ++ codes " and " ++ failing_text pass.failures

-- a whole pass of the same pace with as many failing callbacks has all that this one has
abbrev pub has_all_of : DriverPass → DriverPass → Bool
has_all_of pass later = is_same_pace pass.pace later.pace && is_whole later.all.found.ended && nat_le pass.failures later.failures

-- what was gone through, with a text before each that is told but the first
abbrev pub passes_text : List ℕ → List DriverPass → List ℕ
passes_text before [] = []
passes_text before (pass ∷ passes) = if list_any (has_all_of pass) passes then passes_text before passes else before ++ pass_text pass ++ passes_text (codes ", ") passes

-- how many states were looked at, as far as a number goes
abbrev pub states_in : List DriverPass → ℕ
states_in [] = 0
states_in (pass ∷ passes) = min (length pass.all.found.tree.nodes.keys + states_in passes) (2 ^ 64 - 1)

-- the last line: how much is wrong, and what was gone through
abbrev pub last_text : List DriverPass → List DriverLine → List ℕ
last_text passes lines =
    counted (length lines) (codes "finding") ++ codes "; gone through: " ++ passes_text [] passes ++ codes " (" ++ counted (states_in passes) (codes "state") ++ codes ")\n"

-- what is told where a run isn't written
abbrev pub no_finding_line : ℕ → ℕ → List ℕ
no_finding_line number count = codes "order: no finding " ++ decimal number ++ codes ": `find` tells " ++ counted count (codes "finding") ++ codes "\n"

abbrev pub unmade_line : List ℕ
unmade_line = codes "order: the way there has more lines, calls or codes than a plan may have\n"
