use Rattle.std.proofs.Common.{◌≡◌, drop}
use Rattle.pm_planread.specs.rows.Names.{bad_name, names_in}
use Rattle.pm_planread.specs.tree.Places.{first_fault}
use Rattle.pm_planread.proofs.rows.name_faults.first_bad_name.Given as goal

abbrev pub invariant-loop-i : goal.invariant-loop-i
invariant-loop-i l = first_fault (bad_name l.section) l.i (names_in (drop l.i l.labels)) ≡ first_fault (bad_name l.section) 0 (names_in l.labels)
