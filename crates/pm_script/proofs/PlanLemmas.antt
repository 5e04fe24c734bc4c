-- What a plan's law says of the number of its devices.
use Rattle.std.proofs.Common.{◌≡◌, ℕ, ◌≤◌, true, List, length, arith}
use Rattle.std.proofs.lemmas.Bool.Decides.{nat_tests}
use Rattle.std.proofs.lemmas.Grind.{common_steps}
use Rattle.pm_base.specs.declared.limits.TheConstants.{MAX_DEVICES}
use Rattle.pm_model.specs.IsPlan.{is_plan}
use Rattle.pm_model.specs.declared.plan.Plan.{Plan}
use Rattle.pm_model.specs.declared.rows.DomainRow.{DomainRow}
use Rattle.pm_model.specs.declared.rows.DeviceRow.{DeviceRow}
use Rattle.pm_model.specs.declared.rows.LinkRow.{LinkRow}
use Rattle.pm_model.specs.declared.rows.CallerRow.{CallerRow}

law_of_devices : (lines trace : ℕ) (domains : List DomainRow) (devices : List DeviceRow) (links : List LinkRow) (callers : List CallerRow) → is_plan lines trace domains devices links callers ≡ true → length devices ≤ MAX_DEVICES
law_of_devices lines trace domains devices links callers law = grind (arith, nat_tests, common_steps)

pub devices_of_plan : (plan : Plan) → length plan.devices ≤ MAX_DEVICES
devices_of_plan plan = law_of_devices plan.lines plan.trace plan.domains plan.devices plan.links plan.callers plan.law
