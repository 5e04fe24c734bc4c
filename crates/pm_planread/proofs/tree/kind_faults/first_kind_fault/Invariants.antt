use Rattle.std.proofs.Common.{◌≡◌, drop, map}
use Rattle.toml.specs.View.{view}
use Rattle.pm_planread.specs.tree.KindFault.{item_kind_fault}
use Rattle.pm_planread.specs.tree.Places.{first_fault}
use Rattle.pm_planread.proofs.tree.kind_faults.first_kind_fault.Given as goal

abbrev pub invariant-loop-i : goal.invariant-loop-i
invariant-loop-i l = first_fault (item_kind_fault l.format l.section) l.i (map view (drop l.i l.items)) ≡ first_fault (item_kind_fault l.format l.section) 0 (map view l.items)
