use Rattle.std.proofs.Common.{map}
use Rattle.pm_explore.specs.state.SnapshotOf.{snapshot_of}
use Rattle.pm_outcomes.specs.find.Seen.{AreFirstsBefore}
use Rattle.pm_outcomes.proofs.find.firsts.first_observations.Given as goal

-- what so many of the snapshots show
abbrev pub invariant-loop-place : goal.invariant-loop-place
invariant-loop-place l = AreFirstsBefore l.plan (map snapshot_of l.tree.nodes.keys) l.place l.firsts.entries.entries
