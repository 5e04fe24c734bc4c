-- By the law of the lines at a pace.
use Rattle.std.proofs.Common.{◌≡◌, List, Some, map, slice_get, sym, subst, ap, ◌∙◌}
use Rattle.pm_model.specs.declared.event.Line.{Line}
use Rattle.pm_explore.specs.schedule.Snapshots.{Follows, Snapshot, after}
use Rattle.pm_explore.specs.search.Exact.{HasExactly}
use Rattle.pm_explore.specs.state.SnapshotOf.{snapshot_of}
use Rattle.pm_explore.specs.successors.Lines.{IsNext}
use Rattle.pm_outcomes.specs.paths.Found.{MayComeNext}
use Rattle.pm_outcomes.proofs.paths.ListLemmas.{some_is}
use Rattle.pm_outcomes.proofs.paths.NodeLemmas.{node_list}
use Rattle.pm_outcomes.proofs.paths.PathLemmas.{is_found, node_is}
use Rattle.pm_outcomes.proofs.paths.next.next_snapshots.Goals as goal

pub unreachable-requires : goal.unreachable-requires
unreachable-requires c = is_found c.args.tree.now.nodes.keys c.args.at c.requires.within c.in_default.ensures.key

pub stand_at-requires-clause-there : goal.stand_at-requires-clause-there
stand_at-requires-clause-there c =
    let plan = c.args.plan.now in
    let keys = c.args.tree.now.nodes.keys in
    node_list c.args.pace plan (map snapshot_of keys) c.args.tree.now.parents.items c.args.at c.args.count (snapshot_of c.in-Some.node.now) c.requires.tree (c.times_are_near.ensures.lines c.args.pace plan) c.requires.path c.requires.room
    (node_is snapshot_of keys c.args.at c.in-Some.node.now c.in-Some.ensures.key)

pub snapshots_after-requires-clause-there : goal.snapshots_after-requires-clause-there
snapshots_after-requires-clause-there c =
    let plan = c.args.plan.now in
    let keys = c.args.tree.now.nodes.keys in
    node_list c.args.pace plan (map snapshot_of keys) c.args.tree.now.parents.items c.args.at c.args.count (snapshot_of c.in-Some.node.now) c.requires.tree (c.times_are_near.ensures.lines c.args.pace plan) c.requires.path c.requires.room
    (node_is snapshot_of keys c.args.at c.in-Some.node.now c.in-Some.ensures.key)

pub snapshots_after-requires-clause-next : goal.snapshots_after-requires-clause-next
snapshots_after-requires-clause-next c = λ i line is.
    let next = c.in_ok-lines.ensures.sound i line (subst (λ (l : List Line). slice_get l i ≡ Some line) c.as_slice.ensures.value is) in
    subst (λ (s : Snapshot). MayComeNext c.args.pace c.args.plan.now s line) c.stand_at.ensures.stands.snapshot_is (record { may = next.may; timely = next.timely })

pub returns-clause-snapshots : goal.returns-clause-snapshots
returns-clause-snapshots c = λ p there.
    let plan = c.args.plan.now in
    let keys = c.args.tree.now.nodes.keys in
    let here = snapshot_of c.in-Some.node.now in
    let lines = c.in_ok-lines.lines.items in
    let at : here ≡ p = some_is here p (sym (node_is snapshot_of keys c.args.at c.in-Some.node.now c.in-Some.ensures.key) ∙ there) in
    let next = subst (λ (s : Snapshot). HasExactly (IsNext c.args.pace plan s c.args.spends) lines) c.stand_at.ensures.stands.snapshot_is c.in_ok-lines.ensures in
    let P : List Snapshot → Type 0 = HasExactly (Follows c.args.pace plan c.args.spends here) in
    let all = subst P (sym (c.in_ok-snapshots.ensures.snapshots ∙ ap (map (after plan here)) c.as_slice.ensures.value)) (c.next_snapshots_are_all.ensures c.args.pace plan here c.args.spends lines next) in
    subst (λ (s : Snapshot). HasExactly (Follows c.args.pace plan c.args.spends s) (map snapshot_of c.in_ok-snapshots.snapshots.items)) at all
