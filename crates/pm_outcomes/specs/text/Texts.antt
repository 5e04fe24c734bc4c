-- The text of what the schedules of a plan show (this project's own).
use Rattle.std.specs.Prelude.{ℕ, ◌+◌, ◌==◌, ◌&&◌, ◌||◌, Bool, false, List, [], ◌∷◌, ◌++◌, Some, None, codes, decimal, filter, length, nat_le, slice_get, if◌then◌else◌}
use Rattle.std.specs.Fmt.{signed_decimal}
use Rattle.std.specs.List.{flat_map, range_with_len}
use Rattle.std.specs.Option.{option_map_or}
use Rattle.pm_base.specs.declared.Status.{Status}
use Rattle.pm_base.specs.declared.Status.TheVariants.{Active, Suspended, Suspending, Resuming}
use Rattle.pm_outcomes.specs.declared.list.observations.Left.{Left}
use Rattle.pm_outcomes.specs.declared.list.observations.Observation.{Observation}
use Rattle.pm_outcomes.specs.declared.list.observations.Observation.TheVariants.{End, Return}
use Rattle.pm_outcomes.specs.declared.list.observations.Outcome.{Outcome}
use Rattle.pm_model.specs.declared.event.Command.{Command}
use Rattle.pm_model.specs.declared.plan.Plan.{Plan}
use Rattle.pm_model.specs.declared.rows.CallerRow.{CallerRow}
use Rattle.pm_model.specs.Spelling.{command_text, device_name, newline}
use Rattle.pm_model.specs.Text.{names_of}
use Rattle.pm_outcomes.specs.declared.text.reach.Reach.{Reach}
use Rattle.pm_outcomes.specs.declared.text.reach.Reach.TheVariants.{All, Limit, Within}

abbrev pub status_text : Status → List ℕ
status_text Active = codes "active"
status_text Suspended = codes "suspended"
status_text Suspending = codes "suspending"
status_text Resuming = codes "resuming"

abbrev pub left_text : Left → List ℕ
left_text l = status_text l.status ++ codes " usage " ++ decimal l.usage ++ codes " error " ++ signed_decimal l.error

-- the code of a return, or how a device is left
abbrev pub value_text : Observation → List ℕ
value_text (Return r) = signed_decimal r.code
value_text (End l) = left_text l

-- the least number of preemptions, where it isn't 0
abbrev pub after_text : ℕ → List ℕ
after_text k = if k == 0 then [] else codes " after " ++ decimal k

abbrev pub outcome_text : Outcome → List ℕ
outcome_text o = value_text o.observation ++ after_text o.round

abbrev pub further_text : Outcome → List ℕ
further_text o = codes " / " ++ outcome_text o

-- the outcomes of a command or a device
abbrev pub choices_text : List Outcome → List ℕ
choices_text [] = codes "never"
choices_text (o ∷ rest) = outcome_text o ++ flat_map further_text rest

-- a return of this command, from 1, of this caller
abbrev pub is_return : ℕ → ℕ → Observation → Bool
is_return caller command (Return r) = (r.caller == caller) && (r.command == command)
is_return caller command (End l) = false

-- how this device is left
abbrev pub is_end : ℕ → Observation → Bool
is_end device (Return r) = false
is_end device (End l) = l.device.0 == device

-- two observations are of one command, or of one device
abbrev pub is_alike : Observation → Observation → Bool
is_alike (Return r) (Return s) = (r.caller == s.caller) && (r.command == s.command)
is_alike (End l) (End m) = l.device.0 == m.device.0
is_alike _ _ = false

-- a command or a device has more than one observation, in a list in which those of one stand one behind the other
abbrev pub differs : List Outcome → Bool
differs [] = false
differs (o ∷ []) = false
differs (o ∷ p ∷ rest) = is_alike o.observation p.observation || differs (p ∷ rest)

-- only what differs is told
abbrev pub is_left_out : Bool → List Outcome → Bool
is_left_out differ outcomes = differ && nat_le (length outcomes) 1

abbrev pub call_line : Plan → Bool → List Outcome → ℕ → List ℕ → ℕ → Command → List ℕ
call_line plan differ outcomes caller name number command =
    let told = filter (λ o. is_return caller number o.observation) outcomes in
    if is_left_out differ told then [] else name ++ codes " " ++ decimal number ++ codes " " ++ command_text (names_of plan) command ++ codes ": " ++ choices_text told ++ newline

abbrev pub end_line : Plan → Bool → List Outcome → ℕ → List ℕ
end_line plan differ outcomes d =
    let told = filter (λ o. is_end d o.observation) outcomes in
    if is_left_out differ told then [] else codes "end " ++ device_name (names_of plan) d ++ codes ": " ++ choices_text told ++ newline

-- a line for the command at a place of a script
abbrev pub command_line : Plan → Bool → List Outcome → ℕ → CallerRow → ℕ → List ℕ
command_line plan differ outcomes caller row n = option_map_or (call_line plan differ outcomes caller row.name (n + 1)) (slice_get row.script n) []

-- a line for each command of a caller
abbrev pub script_lines : Plan → Bool → List Outcome → ℕ → CallerRow → List ℕ
script_lines plan differ outcomes caller row = flat_map (command_line plan differ outcomes caller row) (range_with_len 0 (length row.script))

abbrev pub caller_lines : Plan → Bool → List Outcome → ℕ → List ℕ
caller_lines plan differ outcomes caller = option_map_or (script_lines plan differ outcomes caller) (slice_get plan.callers caller) []

-- a line for each command of each caller, and one for each device
abbrev pub told_lines : Plan → Bool → List Outcome → List ℕ
told_lines plan differ outcomes = flat_map (caller_lines plan differ outcomes) (range_with_len 0 (length plan.callers)) ++ flat_map (end_line plan differ outcomes) (range_with_len 0 (length plan.devices))

-- how far the list is exact
abbrev pub reach_text : Reach → List ℕ
reach_text All = codes "all "
reach_text (Within k) = codes "within " ++ decimal k ++ codes ", "
reach_text (Limit (Some k)) = codes "limit within " ++ decimal k ++ codes ", "
reach_text (Limit None) = codes "limit none, "

abbrev pub last_line : Reach → ℕ → List ℕ
last_line reach snapshots = reach_text reach ++ decimal snapshots ++ codes " states" ++ newline

-- Where not even the round of no preemption is complete, no line tells of a command or a device.
abbrev pub told : Plan → Bool → Reach → ℕ → List Outcome → List ℕ
told plan differ (Limit None) snapshots outcomes = last_line (Limit None) snapshots
told plan differ reach snapshots outcomes = told_lines plan differ outcomes ++ last_line reach snapshots
