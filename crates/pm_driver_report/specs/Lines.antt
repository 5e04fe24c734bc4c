-- What is reported of a driver: what its schedules show, by the steps of its file (this project's own).
use Rattle.std.specs.Prelude.{ℕ, ◌+◌, Bool, true, false, not, ◌&&◌, ◌||◌, List, [], ◌∷◌, ◌++◌, Option, Some, None, filter, nat_eq, nat_le, option_and_then, option_map, slice_get, if◌then◌else◌}
use Rattle.std.specs.List.{filter_map, list_any}
use Rattle.std.specs.Option.{option_map_or}
use Rattle.pm_driver_find.specs.Suspects.{sets_status}
use Rattle.pm_driver_find.specs.declared.firsts.DriverFinding.{DriverFinding}
use Rattle.pm_driver_find.specs.declared.sights.DriverSight.{DriverSight}
use Rattle.pm_driver_find.specs.declared.sights.DriverSight.TheVariants as sight
use Rattle.pm_driver_find.specs.declared.sights.ProbeSetting.{ProbeSetting}
use Rattle.pm_driver_find.specs.declared.sights.ProbeSetting.TheVariants as setting
use Rattle.pm_driver_read.specs.declared.driver.Driver.{Driver}
use Rattle.pm_driver_read.specs.declared.driver.DriverCaller.{DriverCaller}
use Rattle.pm_driver_rules.specs.declared.node.DriverNode.{DriverNode}
use Rattle.pm_driver_script.specs.declared.goals.Goal.{Goal}
use Rattle.pm_driver_script.specs.declared.goals.Goal.TheVariants as goal
use Rattle.pm_driver_script.specs.declared.program.ProgramPlace.{ProgramPlace}
use Rattle.pm_find.specs.declared.findings.Weight.{Weight}
use Rattle.pm_find.specs.declared.findings.Weight.TheVariants as weight
use Rattle.pm_driver_report.specs.declared.lines.DriverKind.{DriverKind}
use Rattle.pm_driver_report.specs.declared.lines.DriverKind.TheVariants as kind
use Rattle.pm_driver_report.specs.declared.lines.DriverLine.{DriverLine}
use Rattle.pm_driver_report.specs.declared.lines.LineAt.{LineAt}
use Rattle.pm_driver_report.specs.declared.lines.LineAt.TheVariants as at
use Rattle.pm_driver_report.specs.declared.passes.DriverPass.{DriverPass}

-- a place of a caller's program
abbrev pub program_place : Driver → ℕ → ℕ → Option ProgramPlace
program_place d c k = option_and_then (λ caller. slice_get caller.program.places k) (slice_get d.callers c)

-- the step of the file that a goal is of; the driver core's own calls are of none
abbrev pub file_step : DriverCaller → Goal → Option ℕ
file_step caller (goal.At step part) = option_and_then (λ line. line) (slice_get caller.lines step)
file_step caller goal.Returned = None
file_step caller goal.Failed = None

abbrev pub step_at : Driver → ℕ → ℕ → Option ℕ
step_at d c k = option_and_then (λ caller. option_and_then (λ place. file_step caller place.standing.goal) (slice_get caller.program.places k)) (slice_get d.callers c)

-- what an answer is: by the helper of its call
abbrev pub answer_kind : Driver → ℕ → ℕ → DriverKind
answer_kind d c k = if option_map_or (λ place. sets_status place.command.helper) (program_place d c k) false then kind.RefusedStatus else kind.Disabled

abbrev pub setting_kind : ProbeSetting → DriverKind
setting_kind setting.Enabled = kind.LeftEnabled
setting_kind setting.Forbidden = kind.LeftForbidden
setting_kind setting.Autosuspend = kind.LeftAutosuspend

abbrev pub sight_kind : Driver → DriverSight → DriverKind
sight_kind d (sight.Answers c k code) = answer_kind d c k
sight_kind d (sight.FailsUnread c k) = kind.Unread
sight_kind d (sight.PutsNone c k dev) = kind.RefusedPut
sight_kind d (sight.MeetsOff c k dev) = kind.TouchedOff
sight_kind d (sight.Hangs c k) = kind.Hangs
sight_kind d (sight.LeftOn dev) = kind.LeftOn
sight_kind d (sight.Leaks dev kept) = kind.Leak
sight_kind d (sight.LeftSet dev which) = setting_kind which

-- the step of a place has exits of its own
abbrev pub reads_answer : Driver → ℕ → ℕ → Bool
reads_answer d c k = option_map_or (λ place. place.reads) (program_place d c k) false

abbrev pub kind_weight : DriverKind → Weight
kind_weight kind.Disabled = weight.Error
kind_weight kind.Unread = weight.Error
kind_weight kind.RefusedPut = weight.Error
kind_weight kind.TouchedOff = weight.Error
kind_weight kind.Hangs = weight.Error
kind_weight kind.Leak = weight.Error
kind_weight kind.RefusedStatus = weight.Warning
kind_weight kind.LeftOn = weight.Warning
kind_weight kind.LeftEnabled = weight.Warning
kind_weight kind.LeftForbidden = weight.Warning
kind_weight kind.LeftAutosuspend = weight.Note

-- how much it weighs: an answer that its step reads by another exit may be right
abbrev pub sight_weight : Driver → DriverSight → Weight
sight_weight d (sight.Answers c k code) = if reads_answer d c k then weight.Warning else kind_weight (answer_kind d c k)
sight_weight d x = kind_weight (sight_kind d x)

-- where it is told: at a step of a caller's script, or at a device, by their places in the file
abbrev pub place_at : Driver → ℕ → ℕ → Option LineAt
place_at d c k = option_map (λ step. at.Step c step) (step_at d c k)

abbrev pub sight_at : Driver → DriverSight → Option LineAt
sight_at d (sight.Answers c k code) = place_at d c k
sight_at d (sight.FailsUnread c k) = place_at d c k
sight_at d (sight.PutsNone c k dev) = place_at d c k
sight_at d (sight.MeetsOff c k dev) = place_at d c k
sight_at d (sight.Hangs c k) = place_at d c k
sight_at d (sight.LeftOn dev) = Some (at.Device dev)
sight_at d (sight.Leaks dev kept) = Some (at.Device dev)
sight_at d (sight.LeftSet dev which) = Some (at.Device dev)

-- the round in which a place comes first: so many preempt on the way to it
abbrev pub rounds_before : List ℕ → ℕ → ℕ
rounds_before [] place = 0
rounds_before (bound ∷ rounds) place = if nat_le bound place then rounds_before rounds place + 1 else 0

-- how many callbacks have failed there
abbrev pub failures_at : List DriverNode → ℕ → ℕ
failures_at nodes place = option_map_or (λ node. node.failures) (slice_get nodes place) 0

abbrev pub line_at : Driver → DriverPass → DriverFinding → LineAt → DriverLine
line_at d pass finding here = record {
  kind = sight_kind d finding.sight;
  weight = sight_weight d finding.sight;
  at = here;
  sight = finding.sight;
  pace = pass.pace;
  allowed = pass.failures;
  preemptions = rounds_before pass.all.found.rounds.items finding.place;
  failures = failures_at pass.all.found.tree.nodes.keys finding.place;
  place = finding.place;
}

abbrev pub line_of : Driver → DriverPass → DriverFinding → Option DriverLine
line_of d pass finding = option_map (line_at d pass finding) (sight_at d finding.sight)

abbrev pub lines_of : Driver → DriverPass → List DriverLine
lines_of d pass = filter_map (line_of d pass) pass.all.told.items

-- both tell that the same is wrong at the same place
abbrev pub kind_number : DriverKind → ℕ
kind_number kind.Disabled = 0
kind_number kind.RefusedStatus = 1
kind_number kind.Unread = 2
kind_number kind.RefusedPut = 3
kind_number kind.TouchedOff = 4
kind_number kind.Hangs = 5
kind_number kind.LeftOn = 6
kind_number kind.Leak = 7
kind_number kind.LeftEnabled = 8
kind_number kind.LeftForbidden = 9
kind_number kind.LeftAutosuspend = 10

abbrev pub is_same_at : LineAt → LineAt → Bool
is_same_at (at.Step c step) (at.Step other other_step) = nat_eq c other && nat_eq step other_step
is_same_at (at.Device d) (at.Device other) = nat_eq d.0 other.0
is_same_at _ _ = false

abbrev pub is_same : DriverLine → DriverLine → Bool
is_same one other = nat_eq (kind_number one.kind) (kind_number other.kind) && is_same_at one.at other.at

-- each that is told so is listed once, as it is told first
abbrev pub with_new : List DriverLine → DriverLine → List DriverLine
with_new lines line = if list_any (is_same line) lines then lines else lines ++ line ∷ []

abbrev pub listed : List DriverLine → List DriverLine → List DriverLine
listed lines [] = lines
listed lines (line ∷ more) = listed (with_new lines line) more

abbrev pub listed_passes : Driver → List DriverLine → List DriverPass → List DriverLine
listed_passes d lines [] = lines
listed_passes d lines (pass ∷ passes) = listed_passes d (listed lines (lines_of d pass)) passes

-- all that was gone through shows
abbrev pub all_lines : Driver → List DriverPass → List DriverLine
all_lines d passes = listed_passes d [] passes

abbrev pub is_note_weight : Weight → Bool
is_note_weight weight.Note = true
is_note_weight _ = false

-- it happens in a run of a driver that is right
abbrev pub is_note : DriverLine → Bool
is_note line = is_note_weight line.weight

-- notes are told where they are asked for
abbrev pub is_told : Bool → DriverLine → Bool
is_told notes line = notes || not (is_note line)
