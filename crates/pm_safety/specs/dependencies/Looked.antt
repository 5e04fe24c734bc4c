-- Where a line may break a bond: at the device that it turns, at that one's children and its consumers (this project's own).
use Rattle.std.specs.Prelude.{ℕ, Bool, false, List, length, slice_get}
use Rattle.std.specs.List.{filter, range_with_len}
use Rattle.std.specs.Option.{option_map_or}
use Rattle.pm_base.specs.declared.DevId.{DevId}
use Rattle.pm_model.specs.declared.plan.Plan.{Plan}
use Rattle.pm_model.specs.Counted.{is_same}
use Rattle.pm_model.specs.History.{History}
use Rattle.pm_model.specs.PlanRows.{parent}
use Rattle.pm_model.specs.World.{world}
use Rattle.pm_safety.specs.declared.dependencies.bond.Bond.{Bond}
use Rattle.pm_safety.specs.dependencies.Excuses.{parent_excuse, supplier_excuse}
use Rattle.pm_safety.specs.dependencies.Told.{Excuses, broken_near, parent_bonds, supplier_bonds}

-- the children of p, and the links from a consumer and to a supplier, by their places in the plan
abbrev pub is_child : Plan → DevId → ℕ → Bool
is_child plan p c = option_map_or (λ q. is_same p q) (parent plan (record { 0 = c })) false

abbrev pub is_from : Plan → DevId → ℕ → Bool
is_from plan d l = option_map_or (λ row. is_same d row.consumer) (slice_get plan.links l) false

abbrev pub is_to : Plan → DevId → ℕ → Bool
is_to plan s l = option_map_or (λ row. is_same s row.supplier) (slice_get plan.links l) false

abbrev pub children_of : Plan → DevId → List ℕ
children_of plan p = filter (is_child plan p) (range_with_len 0 (length plan.devices))

abbrev pub links_from : Plan → DevId → List ℕ
links_from plan d = filter (is_from plan d) (range_with_len 0 (length plan.links))

abbrev pub links_to : Plan → DevId → List ℕ
links_to plan s = filter (is_to plan s) (range_with_len 0 (length plan.links))

-- the excuses after these lines
abbrev pub excuses_of : Plan → History → Excuses
excuses_of plan h = record { parent = parent_excuse plan h; supplier = supplier_excuse plan h }

-- what is off of these devices with their parents, and of these links
abbrev pub parents_off : Plan → History → List ℕ → List Bond
parents_off plan h devices = parent_bonds plan (world plan h).views (parent_excuse plan h) devices

abbrev pub suppliers_off : Plan → History → List ℕ → List Bond
suppliers_off plan h links = supplier_bonds plan (world plan h).views (supplier_excuse plan h) links

-- what is broken after these lines by the last of them, which turned d: whether d was Active and ignored its children before it, and
-- whether it is and does after it
abbrev pub broken_by : Plan → History → DevId → Bool → Bool → Bool → Bool → List Bond
broken_by plan h d was_active ignored active ignores =
    broken_near plan (world plan h).views (excuses_of plan h) d (children_of plan d) (links_from plan d) (links_to plan d) was_active ignored active ignores
