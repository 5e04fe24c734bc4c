use Rattle.std.proofs.Common.{map}
use Rattle.std.proofs.lemmas.Option.{slice_get-get_or}
use Rattle.pm_driver_rules.specs.GoingOn.{driver_of}
use Rattle.pm_driver_rules.specs.Nodes.{driver_snapshot_of}
use Rattle.pm_driver_search.specs.Turns.{kept_by}
use Rattle.pm_driver_search.proofs.NextLemmas.{flat_more, flat_whole}
use Rattle.pm_driver_search.proofs.next.push_lines.Goals as goal

pub loop-line-preserved : goal.loop-line-preserved
loop-line-preserved c =
    let f = kept_by (driver_of c.args.going.now.rules.now) (driver_snapshot_of c.args.node.now) c.args.failing in
    record {
      run = c.in_ok-push_kept.ensures.run;
      nodes =
          flat_more f c.args.lines.now c.loop-line.line-index _ (map driver_snapshot_of c.args.out.now.items) (map driver_snapshot_of c.loop-line.out.items) (map driver_snapshot_of c.push_kept.new.out.items) c.loop-line-test.true c.loop-line.invariant.nodes
          c.in_ok-push_kept.ensures.nodes;
    }

pub push_kept-requires-clause-next : goal.push_kept-requires-clause-next
push_kept-requires-clause-next c = c.requires.next c.loop-line.line-index _ (slice_get-get_or c.args.lines.now c.loop-line.line-index _ c.loop-line-test.true)

pub returns-clause-nodes : goal.returns-clause-nodes
returns-clause-nodes c =
    let f = kept_by (driver_of c.args.going.now.rules.now) (driver_snapshot_of c.args.node.now) c.args.failing in
    flat_whole f c.args.lines.now c.loop-line.line-index (map driver_snapshot_of c.args.out.now.items) (map driver_snapshot_of c.loop-line.out.items) c.loop-line-test.false c.loop-line.invariant.nodes
