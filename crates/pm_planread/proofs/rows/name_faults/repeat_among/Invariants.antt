use Rattle.std.proofs.Common.{◌≡◌, drop, map}
use Rattle.pm_planread.specs.rows.Names.{repeated_name}
use Rattle.pm_planread.specs.tree.Places.{first_fault}
use Rattle.pm_planread.proofs.rows.name_faults.repeat_among.Given as goal

abbrev pub invariant-loop-i : goal.invariant-loop-i
invariant-loop-i g l = first_fault (repeated_name l.section (map g.T.Named.name_of l.list)) l.i (map g.T.Named.name_of (drop l.i l.list)) ≡ first_fault (repeated_name l.section (map g.T.Named.name_of l.list)) 0 (map g.T.Named.name_of l.list)
