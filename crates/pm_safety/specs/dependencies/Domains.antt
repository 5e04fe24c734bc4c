-- Which power domains are left on (this project's own; the rule for domains is after the kernel's generic power domains).
use Rattle.std.specs.Prelude.{ℕ, Bool, false, not, ◌&&◌, List, Option, length, map, nat_eq, option_map}
use Rattle.std.specs.List.{find, flat_map, list_any, range_with_len}
use Rattle.std.specs.Option.{option_map_or, option_to_list}
use Rattle.pm_base.specs.declared.DevId.{DevId}
use Rattle.pm_model.specs.declared.plan.Plan.{Plan}
use Rattle.pm_model.specs.Counted.{only_if}
use Rattle.pm_model.specs.Derived.{is_active, is_disabled}
use Rattle.pm_model.specs.PlanRows.{domain, domains_of, is_kept_on}
use Rattle.pm_model.specs.Views.{Views, is_on}
use Rattle.pm_safety.specs.declared.dependencies.domains.DomainOn.{DomainOn}

-- the devices of the plan, by their places
abbrev pub places : Plan → List ℕ
places plan = range_with_len 0 (length plan.devices)

-- d is in domain o, or in one under it
abbrev pub is_within : Plan → ℕ → DevId → Bool
is_within plan o d = list_any (nat_eq o) (domains_of plan d)

-- a device of domain o is Active
abbrev pub is_active_within : Plan → Views → ℕ → ℕ → Bool
is_active_within plan v o d = is_active v (record { 0 = d }) && is_within plan o (record { 0 = d })

-- the domain to which d is attached is on
abbrev pub is_powered : Plan → Views → DevId → Bool
is_powered plan v d = option_map_or (λ home. is_on v home.0) (domain plan d) false

-- a device of domain o keeps it on: it is disabled, and its own domain is on
abbrev pub keeps_on : Plan → Views → ℕ → ℕ → Bool
keeps_on plan v o d = is_disabled v (record { 0 = d }) && is_powered plan v (record { 0 = d }) && is_within plan o (record { 0 = d })

-- the first such device
abbrev pub keeper : Plan → Views → ℕ → Option DevId
keeper plan v o = option_map (λ d. record { 0 = d }) (find (keeps_on plan v o) (places plan))

-- left on: a domain is on, isn't kept on for good, and no device of it is Active
abbrev pub is_left_on : Plan → Views → ℕ → Bool
is_left_on plan v o = is_on v o && not (is_kept_on plan.domains o) && not (list_any (is_active_within plan v o) (places plan))

abbrev pub domain_left : Plan → Views → ℕ → Option DomainOn
domain_left plan v o = only_if (is_left_on plan v o) (record { domain = record { 0 = o }; keeper = keeper plan v o })

-- those that are left on, in the order of the plan
abbrev pub domains_left : Plan → Views → List DomainOn
domains_left plan v = flat_map (λ o. option_to_list (domain_left plan v o)) (range_with_len 0 (length plan.domains))
