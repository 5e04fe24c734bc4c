-- How an Active device stands with its domains, its parent and its suppliers, on the views of a run (runtime_pm.rst,
-- section 2; device_link.rst; the rule for domains is this project's own).
use Rattle.std.specs.Prelude.{ℕ, Bool, false, not, ◌&&◌, Option, is_none, length, slice_get}
use Rattle.std.specs.List.{list_all, range_with_len}
use Rattle.std.specs.Option.{option_and_then, option_map_or}
use Rattle.pm_base.specs.declared.DevId.{DevId}
use Rattle.pm_base.specs.declared.DomId.{DomId}
use Rattle.pm_model.specs.declared.plan.Plan.{Plan}
use Rattle.pm_model.specs.declared.rows.LinkRow.{LinkRow}
use Rattle.pm_model.specs.Counted.{is_same, only_if}
use Rattle.pm_model.specs.Derived.{is_active}
use Rattle.pm_model.specs.PlanRows.{domain, domains_of, parent}
use Rattle.pm_model.specs.Views.{Views, device, is_on, is_present}

-- off domain: the domain of an Active device, where it or one above it is off
abbrev pub off_domain : Plan → Views → DevId → Option DomId
off_domain plan v d = option_and_then (λ o. only_if (is_active v d && not (list_all (is_on v) (domains_of plan d))) o) (domain plan d)

-- off parent: the parent of an Active device, where it isn't Active and doesn't ignore its children
abbrev pub off_parent : Plan → Views → DevId → Option DevId
off_parent plan v d = option_and_then (λ p. only_if (is_active v d && not (is_active v p) && not (device v p).ignores) p) (parent plan d)

-- off supplier: the link at a place, where it has pm_runtime and is present, and its consumer is Active and its supplier isn't
abbrev pub off_link : Plan → Views → ℕ → Option LinkRow
off_link plan v l =
    option_and_then (λ row. only_if (row.pm_runtime && is_present v l && is_active v row.consumer && not (is_active v row.supplier)) row) (slice_get plan.links l)

-- the link at a place is such a one of this consumer
abbrev pub is_off_for : Plan → Views → DevId → ℕ → Bool
is_off_for plan v d l = option_map_or (λ row. is_same d row.consumer) (off_link plan v l) false

-- d is Active, and its domains, its parent and the suppliers of its links are with it
abbrev pub stands_whole : Plan → Views → DevId → Bool
stands_whole plan v d =
    is_active v d && is_none (off_domain plan v d) && is_none (off_parent plan v d)
    && list_all (λ l. not (is_off_for plan v d l)) (range_with_len 0 (length plan.links))
