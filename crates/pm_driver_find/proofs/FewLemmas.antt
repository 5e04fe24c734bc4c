-- A plan has few devices.
use Rattle.std.proofs.Common.{◌≡◌, ◌<◌, ◌≤◌, ◌^◌, ℕ, List, true, length, arith}
use Rattle.std.proofs.lemmas.Grind.{common_steps}
use Rattle.pm_model.specs.declared.plan.Plan.{Plan}
use Rattle.pm_model.specs.declared.rows.CallerRow.{CallerRow}
use Rattle.pm_model.specs.declared.rows.DeviceRow.{DeviceRow}
use Rattle.pm_model.specs.declared.rows.DomainRow.{DomainRow}
use Rattle.pm_model.specs.declared.rows.LinkRow.{LinkRow}
use Rattle.pm_model.specs.IsPlan.{is_plan}

few_by_law : (lines trace : ℕ) (domains : List DomainRow) (devices : List DeviceRow) (links : List LinkRow) (callers : List CallerRow) → is_plan lines trace domains devices links callers ≡ true
    → length devices ≤ 1024
few_by_law lines trace domains devices links callers law = grind (arith, common_steps)

pub few_devices : (plan : Plan) → length plan.devices < 2 ^ 32
few_devices plan = let few = few_by_law plan.lines plan.trace plan.domains plan.devices plan.links plan.callers plan.law in omega (arith, few)
