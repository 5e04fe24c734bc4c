use Rattle.std.proofs.Common.{◌≡◌, ◌++◌}
use Rattle.pm_state.specs.Piles.{AreKept, stages_from}
use Rattle.pm_state.proofs.piles.copy_from.Given as goal

-- those from here down are left to copy
abbrev pub invariant-loop-left : goal.invariant-loop-left
invariant-loop-left l = record {
  kept : AreKept l.cells l.owner l.left l.at;
  stages : l.stages.items ++ stages_from l.cells l.left l.at ≡ l.fn.stages.items ++ stages_from l.cells l.fn.pile.many l.fn.pile.upper;
}

abbrev pub decreases-loop-left : goal.decreases-loop-left
decreases-loop-left l = l.left
