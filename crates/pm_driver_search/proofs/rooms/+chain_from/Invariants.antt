use Rattle.std.proofs.Common.{◌≤◌, ◌+◌}
use Rattle.pm_laws.specs.stacks.Depth.{longest_of}
use Rattle.pm_driver_search.proofs.rooms.+chain_from.Given as goal

abbrev pub decreases-chain_from : goal.decreases-chain_from
decreases-chain_from l = l.steps

abbrev pub invariant-loop-link : goal.invariant-loop-link
invariant-loop-link l = record {
  low : l.most + 1 ≤ longest_of l.plan l.steps l.dev;
  few : l.most ≤ l.steps;
}
