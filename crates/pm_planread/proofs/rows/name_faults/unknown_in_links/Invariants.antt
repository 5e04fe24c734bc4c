use Rattle.std.proofs.Common.{◌≡◌, drop}
use Rattle.pm_planread.specs.rows.Names.{link_unknown, names_in}
use Rattle.pm_planread.specs.tree.Places.{first_fault}
use Rattle.pm_planread.proofs.rows.name_faults.unknown_in_links.Given as goal

abbrev pub invariant-loop-i : goal.invariant-loop-i
invariant-loop-i l = first_fault (link_unknown (names_in l.devices)) l.i (drop l.i l.rows) ≡ first_fault (link_unknown (names_in l.devices)) 0 l.rows
