use Rattle.std.proofs.Common.{◌≡◌, drop}
use Rattle.pm_planread.specs.rows.Names.{domain_unknown, names_in}
use Rattle.pm_planread.specs.tree.Places.{first_fault}
use Rattle.pm_planread.proofs.rows.name_faults.unknown_in_domains.Given as goal

abbrev pub invariant-loop-i : goal.invariant-loop-i
invariant-loop-i l = first_fault (domain_unknown (names_in l.domains)) l.i (drop l.i l.rows) ≡ first_fault (domain_unknown (names_in l.domains)) 0 l.rows
