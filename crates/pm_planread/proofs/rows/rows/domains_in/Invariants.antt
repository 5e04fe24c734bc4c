use Rattle.std.proofs.Common.{◌≡◌, ◌++◌, drop, map}
use Rattle.pm_planread.specs.rows.Names.{names_in}
use Rattle.pm_planread.specs.rows.Rows.{domain_row}
use Rattle.pm_planread.proofs.rows.rows.domains_in.Given as goal

abbrev pub invariant-loop-row : goal.invariant-loop-row
invariant-loop-row l = l.made.items ++ map (domain_row (names_in l.domains)) (drop l.row-index l.rows) ≡ map (domain_row (names_in l.domains)) l.rows
