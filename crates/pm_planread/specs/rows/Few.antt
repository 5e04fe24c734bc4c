-- A plan that isn't refused for too many items (this project's own).
use Rattle.std.specs.Prelude.{◌≤◌, length}
use Rattle.pm_planread.specs.declared.tree.raw.RawPlan.{RawPlan}

pub record AreFew (raw : RawPlan) : Type 0 where
  pub domains : length raw.domains ≤ 128
  pub devices : length raw.devices ≤ 1024
  pub links : length raw.links ≤ 1024
  pub callers : length raw.callers ≤ 16
