use Rattle.std.proofs.Common.{◌++◌, ◌≡◌, ◌∙◌, ap, List, map, refl, slice_get, Some, subst}
use Rattle.pm_model.specs.declared.event.Line.{Line}
use Rattle.pm_driver_rules.specs.GoingOn.{driver_of}
use Rattle.pm_driver_rules.specs.Nodes.{driver_snapshot_of}
use Rattle.pm_driver_search.specs.Turns.{snapshots_after}
use Rattle.pm_driver_search.proofs.NextLemmas.{adds_all, adds_none, come_all, exact_there, stand_there}
use Rattle.pm_driver_search.proofs.next.push_turns.Goals as goal

pub returns-in_default-clause-turns : goal.returns-in_default-clause-turns
returns-in_default-clause-turns c =
    let going = c.args.going.now in
    adds_none going.pace (driver_of going.rules.now) going.most c.args.spends c.args.failing (driver_snapshot_of c.args.node.now) (map driver_snapshot_of c.args.out.now.items) (c.in_default.ensures.none refl)

pub push_lines-requires-clause-stand : goal.push_lines-requires-clause-stand
push_lines-requires-clause-stand c =
    let D = driver_of c.args.going.now.rules.now in
    stand_there c.args.going.now.pace D c.args.node.now c.args.failing c.in_ok-pose.pose c.stand_at.new.run.state.world c.last_of.result c.in_ok-pose.ensures c.in_ok-stand_at.ensures.stands c.last_of.ensures c.in_ok-lines.ensures.stand

pub push_lines-requires-clause-next : goal.push_lines-requires-clause-next
push_lines-requires-clause-next c = λ i line is.
    let D = driver_of c.args.going.now.rules.now in
    come_all c.args.going.now.pace D c.args.node.now c.args.failing c.in_ok-pose.pose c.stand_at.new.run.state.world c.last_of.result c.in_ok-pose.ensures c.in_ok-stand_at.ensures.stands c.last_of.ensures c.args.spends c.in_ok-lines.lines.items
    c.in_ok-stand_at.ensures.run.entries c.in_ok-stand_at.ensures.places c.in_ok-lines.ensures.early c.in_ok-lines.ensures.lines i line (subst (λ (l : List Line). slice_get l i ≡ Some line) c.as_slice-lines.ensures.value is)

pub returns-clause-turns : goal.returns-clause-turns
returns-clause-turns c =
    let going = c.args.going.now in
    let D = driver_of going.rules.now in
    let s = driver_snapshot_of c.args.node.now in
    let known = c.in-Some.ensures.some in
    let exact = exact_there going.pace D c.args.node.now c.args.failing c.in_ok-pose.pose c.stand_at.new.run.state.world c.last_of.result c.in_ok-pose.ensures c.in_ok-stand_at.ensures.stands c.last_of.ensures c.args.spends c.in_ok-lines.lines.items c.in_ok-lines.ensures.lines in
    adds_all going.pace D going.most c.args.spends c.args.failing s c.in-Some.failures c.in_ok-lines.lines.items (map driver_snapshot_of c.args.out.now.items) (map driver_snapshot_of c.push_lines.new.out.items) known.0 known.1 exact
    (c.in_ok-push_lines.ensures.nodes ∙ ap (λ l. map driver_snapshot_of c.args.out.now.items ++ snapshots_after D s c.args.failing l) c.as_slice-lines.ensures.value)
