-- How deep stacks may be: the longest chains of parents and suppliers (this project's own).
use Rattle.std.specs.Prelude.{ℕ, zero, suc, ◌≡◌, ◌+◌, ◌≤◌, ◌&&◌, List, [], ◌∷◌, Some, length, max, nat_eq, slice_get, if◌then◌else◌}
use Rattle.std.specs.Option.{option_map_or}
use Rattle.pm_base.specs.declared.ActorId.TheVariants.{Caller, Work, Timer}
use Rattle.pm_base.specs.declared.DevId.{DevId}
use Rattle.pm_model.specs.declared.event.Command.{Command}
use Rattle.pm_model.specs.declared.plan.Plan.{Plan}
use Rattle.pm_model.specs.declared.rows.CallerRow.{CallerRow}
use Rattle.pm_model.specs.declared.rows.LinkRow.{LinkRow}
use Rattle.pm_model.specs.PlanRows.{no_callbacks, parent}
use Rattle.pm_model.specs.WellFormed.{called_for}
use Rattle.pm_model.specs.World.{World, place}

-- the greatest of f over a list, 0 over none
abbrev pub greatest : {A : Type 0} → (A → ℕ) → List A → ℕ
greatest f [] = 0
greatest f (x ∷ xs) = max (f x) (greatest f xs)

-- f of the supplier where the link has pm_runtime and is of consumer d, present or not
abbrev pub of_supplier : DevId → (DevId → ℕ) → LinkRow → ℕ
of_supplier d f row = if nat_eq row.consumer.0 d.0 && row.pm_runtime then f row.supplier else 0

-- how many devices are on the longest chain from d by parents and runtime links, of at most n steps
abbrev pub longest_of : Plan → ℕ → DevId → ℕ
longest_of plan zero d = 1
longest_of plan (suc n) d = 1 + max (option_map_or (longest_of plan n) (parent plan d) 0) (greatest (of_supplier d (longest_of plan n)) plan.links)

-- no device is on a chain twice, since parents and suppliers stand earlier: so it has fewer steps than the plan devices
unfoldable pub longest_chain : Plan → DevId → ℕ
longest_chain plan d = longest_of plan (length plan.devices) d

-- how many devices are on the chain from d by parents that goes on while a device has no callbacks, of at most n steps
abbrev pub quiet_of : Plan → ℕ → DevId → ℕ
quiet_of plan zero d = 1
quiet_of plan (suc n) d = if no_callbacks plan d then 1 + option_map_or (quiet_of plan n) (parent plan d) 0 else 1

unfoldable pub quiet_chain : Plan → DevId → ℕ
quiet_chain plan d = quiet_of plan (length plan.devices) d

-- the longest chain from a command's device; a delay has none
abbrev pub command_chain : Plan → Command → ℕ
command_chain plan command = option_map_or (longest_chain plan) (called_for command.helper command.dev) 0

-- how many stages may stand in the places of callers, of work items and of timers
pub record AreShallow (plan : Plan) (w : World) : Type 0 where
  pub callers : (c : ℕ) (caller : CallerRow) → slice_get plan.callers c ≡ Some caller → length (place w (Caller c)) ≤ greatest (command_chain plan) caller.script + 3
  pub works : (d : DevId) → length (place w (Work d.0)) ≤ longest_chain plan d + 2
  pub timers : (d : DevId) → length (place w (Timer d.0)) ≤ quiet_chain plan d
