-- What a device lacks to be used (runtime_pm.rst, section 2; device_link.rst; the rule for domains is this project's own). Lists
-- of lines have the newest line first.
use Rattle.std.specs.Prelude.{ℕ, Bool, not, ◌&&◌, Option, Some, find, option_map, if◌then◌else◌}
use Rattle.std.specs.List.{enumerate_from}
use Rattle.std.specs.Option.{option_and_then, option_or}
use Rattle.pm_base.specs.declared.DevId.{DevId}
use Rattle.pm_safety.specs.dependencies.Bonds.{off_domain}
use Rattle.pm_expect.specs.declared.verdicts.verdict.Lack.{Lack}
use Rattle.pm_expect.specs.declared.verdicts.verdict.Lack.TheVariants as lack
use Rattle.pm_model.specs.declared.plan.Plan.{Plan}
use Rattle.pm_model.specs.declared.rows.LinkRow.{LinkRow}
use Rattle.pm_model.specs.Counted.{only_if}
use Rattle.pm_model.specs.Derived.{is_active, is_link_of}
use Rattle.pm_model.specs.Excuse.{is_excused_from_parent, is_excused_from_supplier}
use Rattle.pm_model.specs.History.{History}
use Rattle.pm_model.specs.PlanRows.{parent}
use Rattle.pm_model.specs.Views.{Views, device, is_present}
use Rattle.pm_model.specs.World.{world}

-- on these views d isn't Active, or its domain or one above that is off
abbrev pub lack_now : Plan → Views → DevId → Option Lack
lack_now plan v d =
    if is_active v d then option_map (λ o. lack.Domain o) (off_domain plan v d) else Some (lack.Inactive (device v d).status)

-- the parent of d isn't Active, and d isn't excused from it
abbrev pub parent_lack : Plan → History → DevId → Option Lack
parent_lack plan h d =
    option_and_then (λ p. only_if (not (is_active (world plan h).views p) && not (is_excused_from_parent plan h d p)) (lack.Parent p)) (parent plan d)

-- the link at this place is one of d that has pm_runtime and is present, its supplier isn't Active, and d isn't excused from it
abbrev pub is_missed : Plan → History → DevId → ℕ × LinkRow → Bool
is_missed plan h d p =
    is_link_of d p.1 (is_present (world plan h).views p.0) && not (is_active (world plan h).views p.1.supplier)
    && not (is_excused_from_supplier plan h d p.0 p.1.supplier)

-- the supplier of the first such link
abbrev pub supplier_lack : Plan → History → DevId → Option Lack
supplier_lack plan h d = option_map (λ p. lack.Supplier p.1.supplier) (find (is_missed plan h d) (enumerate_from 0 plan.links))

-- what d lacks after these lines: it isn't Active; or its domain or one above that is off; or its parent or a supplier isn't Active, and
-- d isn't excused
abbrev pub lack_of : Plan → History → DevId → Option Lack
lack_of plan h d = option_or (lack_now plan (world plan h).views d) (option_or (parent_lack plan h d) (supplier_lack plan h d))
