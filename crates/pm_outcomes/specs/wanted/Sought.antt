-- What `order` is asked for, in a plan's numbers (this project's own).
use Rattle.std.specs.Prelude.{ℕ, ℤ, ◌&&◌, List, Result, Ok, Err, length, map, nat_le, slice_get, if◌then◌else◌}
use Rattle.std.specs.Option.{option_map_or}
use Rattle.pm_base.specs.declared.Status.{Status}
use Rattle.pm_outcomes.specs.declared.wanted.sought.Missing.{Missing}
use Rattle.pm_outcomes.specs.declared.wanted.sought.Missing.TheVariants as missing
use Rattle.pm_lab_words.specs.Request.{End, Return, Sought}
use Rattle.pm_outcomes.specs.declared.list.observations.Observation.{Observation}
use Rattle.pm_outcomes.specs.declared.list.observations.Observation.TheVariants as observation
use Rattle.pm_model.specs.declared.plan.Plan.{Plan}
use Rattle.pm_model.specs.declared.rows.CallerRow.{CallerRow}
use Rattle.pm_model.specs.NamedList.{place_named}

abbrev pub caller_names : Plan → List (List ℕ)
caller_names plan = map (λ row. row.name) plan.callers

abbrev pub device_names : Plan → List (List ℕ)
device_names plan = map (λ row. row.name) plan.devices

-- the script has a command of this number
abbrev pub of_command : ℕ → ℕ → ℤ → CallerRow → Result Observation Missing
of_command caller number code row =
    if nat_le 1 number && nat_le number (length row.script) then Ok (observation.Return (record { caller = caller; command = number; code = code })) else Err (missing.Command caller)

abbrev pub of_caller : Plan → ℕ → ℤ → ℕ → Result Observation Missing
of_caller plan number code caller = option_map_or (of_command caller number code) (slice_get plan.callers caller) (Err missing.Caller)

-- of the caller of this name
abbrev pub of_named : Plan → ℕ → ℤ → List ℕ → Result Observation Missing
of_named plan number code name = option_map_or (of_caller plan number code) (place_named name (caller_names plan)) (Err missing.Caller)

abbrev pub of_device : Status → ℕ → ℤ → ℕ → Result Observation Missing
of_device status usage error d = Ok (observation.End (record { device = record { 0 = d }; status = status; usage = usage; error = error }))

-- the observation that is asked for, or what of it the plan doesn't have
abbrev pub observation_sought : Plan → Sought → Result Observation Missing
observation_sought plan (Return caller number code) = of_named plan number code caller
observation_sought plan (End device status usage error) = option_map_or (of_device status usage error) (place_named device (device_names plan)) (Err missing.Device)
