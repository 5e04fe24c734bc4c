-- What the plan says of a device, a domain or a link (this project's own; no callbacks: runtime_pm.rst, section 8).
use Rattle.std.specs.Prelude.{ℕ, zero, suc, Bool, false, not, ◌&&◌, List, [], ◌∷◌, Option, Some, None, ℤ, is_some, nat_eq, length, slice_get, unwrap_or}
use Rattle.std.specs.List.{enumerate_from, list_any}
use Rattle.std.specs.Option.{option_and_then, option_map_or}
use Rattle.pm_base.specs.declared.Cb.{Cb}
use Rattle.pm_base.specs.declared.Cb.TheVariants.{Idle, Suspend, Resume}
use Rattle.pm_base.specs.declared.DevId.{DevId}
use Rattle.pm_base.specs.declared.DomId.{DomId}
use Rattle.pm_model.specs.declared.plan.Plan.{Plan}
use Rattle.pm_model.specs.declared.rows.DeviceRow.{DeviceRow}
use Rattle.pm_model.specs.declared.rows.DomainRow.{DomainRow}
use Rattle.pm_model.specs.declared.rows.LinkRow.{LinkRow}

-- what f says of the device's row, or a default
abbrev pub of_device : {A : Type 0} → (DeviceRow → A) → A → Plan → DevId → A
of_device f default plan d = option_map_or f (slice_get plan.devices d.0) default

-- it has no callbacks of its own (runtime_pm.rst, section 8)
unfoldable pub no_callbacks : Plan → DevId → Bool
no_callbacks plan d = of_device (λ row. row.no_callbacks) false plan d

-- a device with no_callbacks has no idle callback
unfoldable pub has_idle : Plan → DevId → Bool
has_idle plan d = of_device (λ row. is_some row.idle && not row.no_callbacks) false plan d

unfoldable pub marks_busy : Plan → DevId → Bool
marks_busy plan d = of_device (λ row. row.busy) false plan d

unfoldable pub parent : Plan → DevId → Option DevId
parent plan d = of_device (λ row. row.parent) None plan d

unfoldable pub domain : Plan → DevId → Option DomId
domain plan d = of_device (λ row. row.domain) None plan d

unfoldable pub has_parent : Plan → DevId → Bool
has_parent plan d = is_some (parent plan d)

-- the parent of a device that has one
unfoldable pub parent_of : Plan → DevId → DevId
parent_of plan d = unwrap_or (parent plan d) d

unfoldable pub has_domain : Plan → DevId → Bool
has_domain plan d = is_some (domain plan d)

-- the codes that a callback of the device answers in turn
abbrev pub codes_of_row : Cb → DeviceRow → List ℤ
codes_of_row Idle row = unwrap_or row.idle []
codes_of_row Suspend row = row.suspend
codes_of_row Resume row = row.resume

unfoldable pub codes_of : Plan → Cb → DevId → List ℤ
codes_of plan cb d = of_device (codes_of_row cb) [] plan d

abbrev pub ms_of_row : Cb → DeviceRow → ℕ
ms_of_row Idle row = row.idle_ms
ms_of_row Suspend row = row.suspend_ms
ms_of_row Resume row = row.resume_ms

-- how long a callback of the device takes, in milliseconds
unfoldable pub ms_of : Plan → Cb → DevId → ℕ
ms_of plan cb d = of_device (ms_of_row cb) 0 plan d

abbrev pub domain_parent : List DomainRow → DomId → Option DomId
domain_parent rows o = option_and_then (λ row. row.parent) (slice_get rows o.0)

-- a domain and its ancestors, nearest first; there are at most as many as domains
abbrev pub chain : List DomainRow → ℕ → Option DomId → List ℕ
chain rows zero o = []
chain rows (suc n) None = []
chain rows (suc n) (Some o) = o.0 ∷ chain rows n (domain_parent rows o)

-- the device's domain and its ancestors, nearest first
unfoldable pub domains_of : Plan → DevId → List ℕ
domains_of plan d = chain plan.domains (length plan.domains) (domain plan d)

-- whether a domain that is always on is domain i or stands below it
abbrev pub is_kept_on : List DomainRow → ℕ → Bool
is_kept_on rows i =
    list_any (λ p. p.1.always_on && list_any (nat_eq i) (chain rows (length rows) (Some (record { 0 = p.0 })))) (enumerate_from 0 rows)

abbrev pub is_always_on : Plan → ℕ → Bool
is_always_on plan o = option_map_or (λ row. row.always_on) (slice_get plan.domains o) false

abbrev pub is_of_pair : DevId → DevId → LinkRow → Bool
is_of_pair consumer supplier row = nat_eq row.consumer.0 consumer.0 && nat_eq row.supplier.0 supplier.0
