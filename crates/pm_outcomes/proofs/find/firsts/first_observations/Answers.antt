use Rattle.std.proofs.Common.{map, sym, subst}
use Rattle.pm_explore.specs.state.SnapshotOf.{snapshot_of}
use Rattle.pm_outcomes.specs.find.Seen.{AreFirstsBefore}
use Rattle.pm_outcomes.proofs.find.Among.{mapped_to}
use Rattle.pm_outcomes.proofs.find.Seeing.{none_seen}
use Rattle.pm_outcomes.proofs.find.firsts.first_observations.Goals as goal

pub loop-place-init : goal.loop-place-init
loop-place-init c = subst (AreFirstsBefore c.args.plan.now (map snapshot_of c.args.tree.now.nodes.keys) 0) (sym c.new_firsts-firsts.ensures) (none_seen c.args.plan.now (map snapshot_of c.args.tree.now.nodes.keys))

pub loop-place-preserved : goal.loop-place-preserved
loop-place-preserved c =
    let there = mapped_to snapshot_of c.args.tree.now.nodes.keys c.loop-place.place c.in-Some.snapshot.now (sym c.in-Some.ensures.key) in
    c.in_ok-note_snapshot.ensures (map snapshot_of c.args.tree.now.nodes.keys) there c.loop-place.invariant
