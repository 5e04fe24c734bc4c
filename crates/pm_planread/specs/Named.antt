-- A plan whose names are names, stand once and are there, and whose rows stand in order (this project's own).
use Rattle.std.specs.Prelude.{◌≡◌, None}
use Rattle.pm_planread.specs.declared.tree.raw.RawPlan.{RawPlan}
use Rattle.pm_planread.specs.rows.Names.{name_fault, repeat_fault, unknown_fault}
use Rattle.pm_planread.specs.rows.Orders.{domain_fault, later_fault, link_fault}
use Rattle.pm_planread.specs.rows.Rows.{device_rows, domain_rows, link_rows}
use Rattle.pm_planread.specs.rows.TooMany.{too_many_fault}

pub record AreNamed (raw : RawPlan) : Type 0 where
  pub few : too_many_fault raw ≡ None
  pub names : name_fault raw ≡ None
  pub distinct : repeat_fault raw ≡ None
  pub known : unknown_fault raw ≡ None

pub record AreOrdered (raw : RawPlan) : Type 0 where
  pub earlier : later_fault (domain_rows raw) (device_rows raw) (link_rows raw) ≡ None
  pub domains : domain_fault (device_rows raw) ≡ None
  pub links : link_fault (device_rows raw) (link_rows raw) ≡ None
