-- The refusals `later`, `no_callbacks_with_domain` and `no_callbacks_with_link` (this project's own), said of the plan's rows.
use Rattle.std.specs.Prelude.{ℕ, false, ◌&&◌, List, Option, is_some, nat_le}
use Rattle.std.specs.Option.{option_map_or, option_or}
use Rattle.pm_model.specs.IsPlan.{lacks_callbacks}
use Rattle.pm_model.specs.declared.rows.DomainRow.{DomainRow}
use Rattle.pm_model.specs.declared.rows.DeviceRow.{DeviceRow}
use Rattle.pm_model.specs.declared.rows.LinkRow.{LinkRow}
use Rattle.pm_planread.specs.tree.Places.{first_fault}
use Rattle.pm_planread.specs.declared.tree.place.Place.{Place}
use Rattle.pm_planread.specs.declared.tree.place.Section.TheVariants.{Domain, Device, Link}
use Rattle.pm_planread.specs.rows.Faults.{fault_if}

-- later: a parent that isn't earlier than the item, a supplier that isn't earlier than the consumer
abbrev pub domain_later : ℕ → DomainRow → Option Place
domain_later i row = fault_if Domain i (option_map_or (λ p. nat_le i p.0) row.parent false)

abbrev pub device_later : ℕ → DeviceRow → Option Place
device_later i row = fault_if Device i (option_map_or (λ p. nat_le i p.0) row.parent false)

abbrev pub link_later : ℕ → LinkRow → Option Place
link_later i row = fault_if Link i (nat_le row.consumer.0 row.supplier.0)

unfoldable pub later_fault : List DomainRow → List DeviceRow → List LinkRow → Option Place
later_fault domains devices links =
    option_or (first_fault domain_later 0 domains) (option_or (first_fault device_later 0 devices) (first_fault link_later 0 links))

-- a device with no_callbacks and a domain
abbrev pub idle_in_domain : ℕ → DeviceRow → Option Place
idle_in_domain i row = fault_if Device i (row.no_callbacks && is_some row.domain)

unfoldable pub domain_fault : List DeviceRow → Option Place
domain_fault devices = first_fault idle_in_domain 0 devices

-- a link with pm_runtime whose consumer has no_callbacks
abbrev pub idle_consumer : List DeviceRow → ℕ → LinkRow → Option Place
idle_consumer devices i row = fault_if Link i (row.pm_runtime && lacks_callbacks devices row.consumer)

unfoldable pub link_fault : List DeviceRow → List LinkRow → Option Place
link_fault devices links = first_fault (idle_consumer devices) 0 links
