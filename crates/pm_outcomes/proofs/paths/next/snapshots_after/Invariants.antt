use Rattle.std.proofs.Common.{◌≡◌, map, take, true}
use Rattle.pm_explore.specs.schedule.Snapshots.{after}
use Rattle.pm_explore.specs.state.SnapshotOf.{snapshot_of}
use Rattle.pm_outcomes.specs.paths.Runs.{IsRunOf, StandsAt}
use Rattle.pm_outcomes.proofs.paths.next.snapshots_after.Given as goal

-- the snapshots of the lines so far
abbrev pub invariant-loop-line : goal.invariant-loop-line
invariant-loop-line l = record {
  run : IsRunOf l.plan l.run;
  stands : l.is_there ≡ true → StandsAt l.run (snapshot_of l.node) l.count;
  snapshots : map snapshot_of l.snapshots.items ≡ map (after l.plan (snapshot_of l.node)) (take l.line-index l.lines);
}
