use Rattle.std.proofs.Common.{◌≡◌, drop}
use Rattle.pm_planread.specs.rows.Names.{device_unknown, names_in}
use Rattle.pm_planread.specs.tree.Places.{first_fault}
use Rattle.pm_planread.proofs.rows.name_faults.unknown_in_devices.Given as goal

abbrev pub invariant-loop-i : goal.invariant-loop-i
invariant-loop-i l = first_fault (device_unknown (names_in l.domains) (names_in l.devices)) l.i (drop l.i l.rows) ≡ first_fault (device_unknown (names_in l.domains) (names_in l.devices)) 0 l.rows
