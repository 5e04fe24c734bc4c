-- The rows of a plan have the names that its text gives them.
use Rattle.std.proofs.Common.{◌≡◌, ℕ, List, [], ◌∷◌, map, refl, ap}
use Rattle.pm_model.specs.declared.rows.DomainRow.{DomainRow}
use Rattle.pm_model.specs.declared.rows.DeviceRow.{DeviceRow}
use Rattle.pm_planread.specs.declared.tree.raw.RawDomain.{RawDomain}
use Rattle.pm_planread.specs.declared.tree.raw.RawDevice.{RawDevice}
use Rattle.pm_planread.specs.rows.Rows.{device_row, domain_row}

pub domain_row_names : (domains : List (List ℕ)) (rows : List RawDomain) → map (λ (row : DomainRow). row.name) (map (domain_row domains) rows) ≡ map (λ (row : RawDomain). row.name) rows
unfolding domain_row
domain_row_names domains [] = refl
domain_row_names domains (row ∷ rows) = ap (λ l. row.name ∷ l) (domain_row_names domains rows)

pub device_row_names : (domains devices : List (List ℕ)) (rows : List RawDevice) → map (λ (row : DeviceRow). row.name) (map (device_row domains devices) rows) ≡ map (λ (row : RawDevice). row.name) rows
unfolding device_row
device_row_names domains devices [] = refl
device_row_names domains devices (row ∷ rows) = ap (λ l. row.name ∷ l) (device_row_names domains devices rows)
