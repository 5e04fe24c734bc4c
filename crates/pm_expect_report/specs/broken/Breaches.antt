-- What of an expectation is broken where a schedule of a plan stands (this project's own).
use Rattle.std.specs.Prelude.{ℕ, ℤ, ◌-◌, Bool, true, false, not, ◌&&◌, ◌||◌, List, [], Option, Some, None, nat_eq, option_map, slice_get, take, if◌then◌else◌}
use Rattle.std.specs.Option.{option_and_then, option_map_or}
use Rattle.std.specs.Ordering.{int_eq}
use Rattle.pm_base.specs.declared.ActorId.TheVariants.{Caller}
use Rattle.pm_expect_report.specs.declared.broken.expectation.Breach.{Breach}
use Rattle.pm_expect_report.specs.declared.broken.expectation.Breach.TheVariants.{Answered, Lacking, Leaving}
use Rattle.pm_expect_report.specs.declared.broken.expectation.Expectation.{Expectation}
use Rattle.pm_expect_report.specs.declared.broken.expectation.Expectation.TheVariants as expectation
use Rattle.pm_expect.specs.Same.{is_same_command, times_of}
use Rattle.pm_expect.specs.declared.expectation.Answer.{Answer}
use Rattle.pm_expect.specs.declared.expectation.End.{End}
use Rattle.pm_expect.specs.declared.expectation.Use.{Use}
use Rattle.pm_expect.specs.declared.expectation.Which.{Which}
use Rattle.pm_expect.specs.declared.expectation.Which.TheVariants as which
use Rattle.pm_expect.specs.verdicts.Verdicts.{is_as_left}
use Rattle.pm_expect.specs.declared.verdicts.verdict.Lack.{Lack}
use Rattle.pm_expect.specs.declared.verdicts.verdict.Leaves.{Leaves}
use Rattle.pm_outcomes.specs.declared.list.observations.Returned.{Returned}
use Rattle.pm_outcomes.specs.observe.Shows.{return_at}
use Rattle.pm_model.specs.declared.event.Command.{Command}
use Rattle.pm_model.specs.declared.plan.Plan.{Plan}
use Rattle.pm_model.specs.declared.views.Device.{Device}
use Rattle.pm_model.specs.Counted.{only_if}
use Rattle.pm_model.specs.Lawful.{is_empty_place, is_finished}
use Rattle.pm_model.specs.Views.{device}
use Rattle.pm_model.specs.World.{called_by, place}
use Rattle.pm_explore.specs.schedule.Snapshots.{Snapshot}
use Rattle.pm_expect.specs.uses.Lacks.{lack_now}

abbrev pub script_of : Plan → ℕ → List Command
script_of plan caller = option_map_or (λ row. row.script) (slice_get plan.callers caller) []

-- the command of this number of a script, from 1
abbrev pub is_command_at : Command → List Command → ℕ → Bool
is_command_at command script number = option_map_or (is_same_command command) (slice_get script (number - 1)) false

abbrev pub is_nth : Which → ℕ → Bool
is_nth which.Each times = true
is_nth (which.Nth n) times = nat_eq times n

-- an answer means the call of this number of a script: it is of its command, and, where the answer counts, there are so many of it up to there
abbrev pub is_meant_in : List Command → Answer → ℕ → Bool
is_meant_in script a number = is_command_at a.command script number && is_nth a.which (times_of a.command (take number script))

abbrev pub is_meant : Plan → Answer → Returned → Bool
is_meant plan a r = nat_eq r.caller a.caller && is_meant_in (script_of plan a.caller) a r.command

-- the last line is the return of a call that the answer means, with another code
abbrev pub other_code : Plan → Answer → Snapshot → Option ℤ
other_code plan a s = option_and_then (λ r. only_if (is_meant plan a r && not (int_eq r.code a.code)) r.code) (return_at s)

-- the run is finished, and leaves the device otherwise
abbrev pub left_otherwise : End → Device → Option Leaves
left_otherwise e x = if is_as_left e x then None else Some (record { status = x.status; usage = x.usage })

abbrev pub other_end : Plan → End → Snapshot → Option Leaves
other_end plan e s = if is_finished plan s.world then left_otherwise e (device s.world.views e.dev) else None

-- the last line is a return of this caller's
abbrev pub is_return_of : Snapshot → ℕ → Bool
is_return_of s caller = option_map_or (λ r. nat_eq r.caller caller) (return_at s) false

-- the last line is the call's, the return's or one between them, of a call by this caller
abbrev pub is_in_call_of : Snapshot → ℕ → Bool
is_in_call_of s caller = not (is_empty_place (place s.world (Caller caller))) || is_return_of s caller

-- of a call of the command of a use
abbrev pub is_in_use : Plan → Use → Snapshot → Bool
is_in_use plan u s = is_in_call_of s u.caller && is_command_at u.command (script_of plan u.caller) (called_by s.world u.caller)

-- and the device lacks something to be used
abbrev pub lack_in_use : Plan → Use → Snapshot → Option Lack
lack_in_use plan u s = if is_in_use plan u s then lack_now plan s.world.views u.dev else None

-- how an expectation is broken where a schedule stands, if it is
unfoldable pub breach_at : Plan → Expectation → Snapshot → Option Breach
breach_at plan (expectation.Answer a) s = option_map (λ code. Answered code) (other_code plan a s)
breach_at plan (expectation.End e) s = option_map (λ leaves. Leaving leaves) (other_end plan e s)
breach_at plan (expectation.Use u) s = option_map (λ lack. Lacking lack) (lack_in_use plan u s)
