-- The children of a device that count (runtime_pm.rst, section 3, child_count).
use Rattle.std.specs.Prelude.{ℕ, Bool, ◌||◌, List, Option, map, option_map}
use Rattle.pm_base.specs.declared.DevId.{DevId}
use Rattle.pm_base.specs.declared.Status.{Status}
use Rattle.pm_model.specs.declared.plan.Plan.{Plan}
use Rattle.pm_model.specs.Derived.{is_active_status, is_suspending_status}

-- a child of this status counts
abbrev pub counts : Status → Bool
counts s = is_active_status s || is_suspending_status s

abbrev pub place_of : Option DevId → Option ℕ
place_of d = option_map (λ x. x.0) d

-- the parent of each device
abbrev pub parents : Plan → List (Option ℕ)
parents plan = map (λ row. place_of row.parent) plan.devices
