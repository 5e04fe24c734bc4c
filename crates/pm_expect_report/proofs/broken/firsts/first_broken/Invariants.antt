use Rattle.std.proofs.Common.{map}
use Rattle.pm_expect_report.specs.broken.Found.{IsWholeBefore}
use Rattle.pm_explore.specs.state.SnapshotOf.{snapshot_of}
use Rattle.pm_expect_report.proofs.broken.firsts.first_broken.Given as goal

-- none of so many snapshots breaks it
abbrev pub invariant-loop-place : goal.invariant-loop-place
invariant-loop-place l = IsWholeBefore l.plan l.expectation (map snapshot_of l.found.tree.nodes.keys) l.place
