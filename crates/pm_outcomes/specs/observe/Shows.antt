-- The observations of a snapshot, as a list (this project's own).
use Rattle.std.specs.Prelude.{ℕ, ℤ, ◌++◌, [], List, Option, Some, None, length, map, option_map, if◌then◌else◌}
use Rattle.std.specs.List.{range_with_len}
use Rattle.std.specs.Option.{option_to_list}
use Rattle.pm_base.specs.declared.ActorId.{ActorId}
use Rattle.pm_base.specs.declared.ActorId.TheVariants.{Caller}
use Rattle.pm_base.specs.declared.DevId.{DevId}
use Rattle.pm_outcomes.specs.declared.list.observations.Left.{Left}
use Rattle.pm_outcomes.specs.declared.list.observations.Observation.{Observation}
use Rattle.pm_outcomes.specs.declared.list.observations.Observation.TheVariants.{End, Return}
use Rattle.pm_outcomes.specs.declared.list.observations.Returned.{Returned}
use Rattle.pm_model.specs.declared.plan.Plan.{Plan}
use Rattle.pm_model.specs.Lawful.{is_finished}
use Rattle.pm_model.specs.Views.{Views, device}
use Rattle.pm_model.specs.World.{World, called_by}
use Rattle.pm_explore.specs.schedule.Snapshots.{Snapshot}

-- the return that the last line is, by who wrote it and what it returned
abbrev pub return_by : World → Option ActorId → Option ℤ → Option Returned
return_by w (Some (Caller c)) (Some code) = Some (record { caller = c; command = called_by w c; code = code })
return_by w _ _ = None

abbrev pub return_at : Snapshot → Option Returned
return_at s = return_by s.world s.last s.code

-- how the views have a device
abbrev pub end_of : Views → DevId → Left
end_of v d = record { device = d; status = (device v d).status; usage = (device v d).usage; error = (device v d).error }

abbrev pub end_at : Views → ℕ → Observation
end_at v d = End (end_of v (record { 0 = d }))

-- the return, and how a finished run leaves each device
abbrev pub observations_at : Plan → Snapshot → List Observation
observations_at plan s = option_to_list (option_map Return (return_at s)) ++ (if is_finished plan s.world then map (end_at s.world.views) (range_with_len 0 (length plan.devices)) else [])
