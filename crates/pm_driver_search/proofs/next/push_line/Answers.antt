use Rattle.std.proofs.Common.{◌++◌, ◌∙◌, ap, map, sym}
use Rattle.pm_model.specs.World.{World, after_line, row_at}
use Rattle.pm_driver_orders.specs.DriverSnapshots.{all_after}
use Rattle.pm_driver_rules.specs.GoingOn.{driver_of}
use Rattle.pm_driver_rules.specs.Nodes.{driver_snapshot_of}
use Rattle.pm_driver_search.specs.Standing.{snapshot_behind}
use Rattle.pm_driver_search.proofs.NextLemmas.{snapshots_are}
use Rattle.pm_driver_search.proofs.PoseLemmas.{posed_by}
use Rattle.pm_driver_search.proofs.next.push_line.Goals as goal

pub returns-clause-nodes : goal.returns-clause-nodes
returns-clause-nodes c =
    let D = driver_of c.args.going.now.rules.now in
    let plan = D.plan in
    let s = driver_snapshot_of c.args.node.now in
    let line = c.args.line.now in
    let views = s.snapshot.world.views in
    let w = c.write.new.run.state.world in
    let stands = c.in_ok-stand_at.ensures.stands ∙ posed_by D c.args.node.now c.args.failing c.args.pose.now c.requires.pose in
    let is = c.in_ok-write.ensures.stands ∙ ap (λ (x : World). after_line plan x line (row_at plan x line.actor line.time)) stands in
    let all = c.in_ok-positions.ensures views (sym c.as_slice.ensures.value) ∙ ap (all_after D views line.actor line.event) c.as_slice-2.ensures.value in
    c.in_ok-push_nodes.ensures
    ∙ ap (λ l. map driver_snapshot_of c.args.out.now.items ++ map (λ v. snapshot_behind s w line c.args.failures v.items) l) c.as_slice-3.ensures.value
    ∙ ap (λ l. map driver_snapshot_of c.args.out.now.items ++ l) (snapshots_are D s line c.args.failing w c.args.failures (λ v. v.items) c.in_ok-positions.positions.items c.requires.kind is c.requires.failures all)
