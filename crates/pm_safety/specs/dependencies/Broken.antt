-- Which bonds a line breaks: those that are off after it and were not before it (this project's own). Lists of lines have the
-- newest line first.
use Rattle.std.specs.Prelude.{ℕ, List, [], ◌∷◌, ◌++◌, Option, is_some, length, if◌then◌else◌}
use Rattle.std.specs.List.{flat_map, range_with_len}
use Rattle.std.specs.Option.{option_to_list}
use Rattle.pm_base.specs.declared.DevId.{DevId}
use Rattle.pm_model.specs.declared.event.Line.{Line}
use Rattle.pm_model.specs.declared.plan.Plan.{Plan}
use Rattle.pm_model.specs.History.{History}
use Rattle.pm_model.specs.World.{world}
use Rattle.pm_safety.specs.declared.dependencies.bond.Bond.{Bond}
use Rattle.pm_safety.specs.dependencies.Excuses.{parent_excuse, supplier_excuse}
use Rattle.pm_safety.specs.dependencies.Told.{domain_bond, parent_bond, supplier_bond}

-- what is off after these lines, and the excuse
abbrev pub domain_off : Plan → History → DevId → Option Bond
domain_off plan h d = domain_bond plan (world plan h).views d

abbrev pub parent_off : Plan → History → DevId → Option Bond
parent_off plan h d = parent_bond plan (world plan h).views (parent_excuse plan h) d

abbrev pub supplier_off : Plan → History → ℕ → Option Bond
supplier_off plan h l = supplier_bond plan (world plan h).views (supplier_excuse plan h) l

-- what is off, where it wasn't off before
abbrev pub newly : Option Bond → Option Bond → List Bond
newly before after = if is_some before then [] else option_to_list after

-- the bonds that a line behind these breaks: of the devices in the plan's order with their domains, then with their parents, and
-- of the links in its order
abbrev pub broken_at : Plan → History → Line → List Bond
broken_at plan h line =
    flat_map (λ d. newly (domain_off plan h (record { 0 = d })) (domain_off plan (line ∷ h) (record { 0 = d }))) (range_with_len 0 (length plan.devices))
    ++ flat_map (λ d. newly (parent_off plan h (record { 0 = d })) (parent_off plan (line ∷ h) (record { 0 = d }))) (range_with_len 0 (length plan.devices))
    ++ flat_map (λ l. newly (supplier_off plan h l) (supplier_off plan (line ∷ h) l)) (range_with_len 0 (length plan.links))
