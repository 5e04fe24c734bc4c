-- Line by line.
use Rattle.std.proofs.Common.{arith, sym}
use Rattle.pm_explore.specs.state.SnapshotOf.{snapshot_of}
use Rattle.pm_outcomes.specs.paths.Runs.{snapshot_of_run}
use Rattle.pm_outcomes.proofs.paths.NextLemmas.{comes_there, one_snapshot_more}
use Rattle.pm_outcomes.proofs.paths.next.snapshots_after.Goals as goal

pub snapshot_after-requires-clause-room : goal.snapshot_after-requires-clause-room
snapshot_after-requires-clause-room c =
    let lines = c.go_back.ensures.stands.lines_are in
    let room = c.requires.room in
    omega (arith, lines, room)

pub snapshot_after-requires-clause-next : goal.snapshot_after-requires-clause-next
snapshot_after-requires-clause-next c =
    comes_there c.args.pace c.args.plan.now (snapshot_of c.args.node.now) (snapshot_of_run c.go_back.new.run) c.args.lines.now c.loop-line.line-index _ c.requires.next c.loop-line-test.true (sym c.go_back.ensures.stands.snapshot_is)

pub loop-line-preserved : goal.loop-line-preserved
loop-line-preserved c = record {
  run = c.snapshot_after.ensures.run;
  stands = λ is. cc is;
  snapshots =
      one_snapshot_more c.args.plan.now (snapshot_of c.args.node.now) (snapshot_of_run c.go_back.new.run) c.loop-line.snapshots.items c.push.new.self.items c.in_ok-snapshot.snapshot c.args.lines.now c.loop-line.line-index _ c.loop-line-test.true
      c.loop-line.invariant.snapshots c.in_ok-push.ensures.items c.in_ok-snapshot.ensures.snapshot c.go_back.ensures.stands.snapshot_is;
}
