-- The small plan of the tests is a plan.
use Rattle.std.proofs.Common.{◌≡◌, List, true, refl}
use Rattle.pm_model.specs.declared.rows.CallerRow.{CallerRow}
use Rattle.pm_model.specs.declared.rows.DeviceRow.{DeviceRow}
use Rattle.pm_model.specs.declared.rows.DomainRow.{DomainRow}
use Rattle.pm_model.specs.declared.rows.LinkRow.{LinkRow}
use Rattle.pm_model.specs.IsPlan.{is_plan}
use Rattle.pm_islands.specs.SmallPlan.{the_callers, the_devices, the_domains, the_links}

pub is_small_plan : (domains : List DomainRow) (devices : List DeviceRow) (links : List LinkRow) (callers : List CallerRow)
    → domains ≡ the_domains → devices ≡ the_devices → links ≡ the_links → callers ≡ the_callers → is_plan 20 1 domains devices links callers ≡ true
is_small_plan domains devices links callers o d l c = rw (o, d, l, c) refl
