-- The rows of a plan, whose names are places (this project's own).
use Rattle.std.specs.Prelude.{ℕ, Bool, ◌&&◌, List, Option, ℤ, pos, filter, int_le, map, nat_abs, option_and_then, option_map, unwrap_or, if◌then◌else◌}
use Rattle.pm_base.specs.declared.DevId.{DevId}
use Rattle.pm_base.specs.declared.DomId.{DomId}
use Rattle.pm_model.specs.IsPlan.{is_code}
use Rattle.pm_model.specs.NamedList.{place_named}
use Rattle.pm_model.specs.declared.rows.DomainRow.{DomainRow}
use Rattle.pm_model.specs.declared.rows.DeviceRow.{DeviceRow}
use Rattle.pm_model.specs.declared.rows.LinkRow.{LinkRow}
use Rattle.pm_planread.specs.declared.tree.raw.RawDomain.{RawDomain}
use Rattle.pm_planread.specs.declared.tree.raw.RawDevice.{RawDevice}
use Rattle.pm_planread.specs.declared.tree.raw.RawLink.{RawLink}
use Rattle.pm_planread.specs.declared.tree.raw.RawPlan.{RawPlan}
use Rattle.pm_planread.specs.rows.Names.{device_names, domain_names}

-- whether the number is in the range
abbrev pub is_within : ℕ → ℕ → ℤ → Bool
is_within low high n = int_le (pos low) n && int_le n (pos high)

-- the number where it is in the range, and else the least one: there the plan is refused
abbrev pub natural_within : ℕ → ℕ → ℤ → ℕ
natural_within low high n = if is_within low high n then nat_abs n else low

-- the milliseconds of a callback
abbrev pub ms_of : ℤ → ℕ
ms_of n = natural_within 0 1000000 n

-- the codes that a callback may answer: where there are others, the plan is refused
abbrev pub codes_of : List ℤ → List ℤ
codes_of numbers = filter is_code numbers

abbrev pub domain_of : List (List ℕ) → List ℕ → Option DomId
domain_of names name = option_map (λ p. record { 0 = p }) (place_named name names)

abbrev pub device_of : List (List ℕ) → List ℕ → Option DevId
device_of names name = option_map (λ p. record { 0 = p }) (place_named name names)

unfoldable pub domain_row : List (List ℕ) → RawDomain → DomainRow
domain_row domains row = record {
  name = row.name;
  parent = option_and_then (domain_of domains) row.parent;
  always_on = row.always_on;
}

unfoldable pub device_row : List (List ℕ) → List (List ℕ) → RawDevice → DeviceRow
device_row domains devices row = record {
  name = row.name;
  parent = option_and_then (device_of devices) row.parent;
  domain = option_and_then (domain_of domains) row.domain;
  ignore_children = row.ignore_children;
  no_callbacks = row.no_callbacks;
  busy = row.busy;
  idle = option_map codes_of row.idle;
  suspend = codes_of row.suspend;
  resume = codes_of row.resume;
  idle_ms = ms_of row.idle_ms;
  suspend_ms = ms_of row.suspend_ms;
  resume_ms = ms_of row.resume_ms;
}

-- the device of the name, and the first one where there is none: there the plan is refused
abbrev pub device_or_first : List (List ℕ) → List ℕ → DevId
device_or_first names name = record { 0 = unwrap_or (place_named name names) 0 }

unfoldable pub link_row : List (List ℕ) → RawLink → LinkRow
link_row devices row = record {
  consumer = device_or_first devices row.consumer;
  supplier = device_or_first devices row.supplier;
  pm_runtime = row.pm_runtime;
  later = row.later;
}

abbrev pub domain_rows : RawPlan → List DomainRow
domain_rows raw = map (domain_row (domain_names raw)) raw.domains

abbrev pub device_rows : RawPlan → List DeviceRow
device_rows raw = map (device_row (domain_names raw) (device_names raw)) raw.devices

abbrev pub link_rows : RawPlan → List LinkRow
link_rows raw = map (link_row (device_names raw)) raw.links
