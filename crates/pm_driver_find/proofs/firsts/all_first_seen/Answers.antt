use Rattle.std.proofs.Common.{map, refl}
use Rattle.pm_driver_rules.specs.Nodes.{driver_snapshot_of}
use Rattle.pm_driver_find.proofs.ToldLemmas.{seen_more, unseen_next}
use Rattle.pm_driver_find.proofs.firsts.all_first_seen.Goals.{in-Some+in_ok-push, in_default}
use Rattle.pm_driver_find.proofs.firsts.all_first_seen.Goals as goal

pub loop-sight-preserved : goal.loop-sight-preserved
loop-sight-preserved c =
    let snapshots = map driver_snapshot_of c.args.tree.now.nodes.keys in
    elim c.match-first_seen.branch [
      | in-Some+in_ok-push w ↦
          let told = seen_more c.args.examined.now snapshots c.args.sights.now c.loop-sight.sight-index _ c.loop-sight.told.items w.push.new.self.items w.in-Some.place c.loop-sight-test.true c.loop-sight.invariant w.in-Some.ensures.some w.in_ok-push.ensures.items in
          rw w.told-is told
      | in_default w ↦
          let told = unseen_next c.args.examined.now snapshots c.args.sights.now c.loop-sight.sight-index _ c.loop-sight.told.items c.loop-sight-test.true c.loop-sight.invariant (w.in_default.ensures.none refl) in
          rw w.told-is told
    ]
