use Rattle.std.proofs.Common.{◌≡◌, ◌++◌, drop, map}
use Rattle.pm_planread.specs.rows.Names.{names_in}
use Rattle.pm_planread.specs.rows.Rows.{link_row}
use Rattle.pm_planread.proofs.rows.rows.links_in.Given as goal

abbrev pub invariant-loop-row : goal.invariant-loop-row
invariant-loop-row l = l.made.items ++ map (link_row (names_in l.devices)) (drop l.row-index l.rows) ≡ map (link_row (names_in l.devices)) l.rows
