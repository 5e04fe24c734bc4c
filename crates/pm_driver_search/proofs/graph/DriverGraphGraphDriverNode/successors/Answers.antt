use Rattle.std.proofs.Common.{ap, map, subst}
use Rattle.pm_explore.specs.search.Exact.{HasExactly}
use Rattle.pm_driver_orders.specs.DriverSnapshots.{DriverFollows, DriverSnapshot}
use Rattle.pm_driver_rules.specs.GoingOn.{driver_of}
use Rattle.pm_driver_rules.specs.Nodes.{driver_snapshot_of}
use Rattle.pm_driver_search.proofs.NextLemmas.{both_added, node_is}
use Rattle.pm_driver_search.proofs.graph.DriverGraphGraphDriverNode.successors.Goals as goal

pub returns-clause-all : goal.returns-clause-all
returns-clause-all c = λ p there.
    let going = c.args.self.now.going in
    let D = driver_of going.rules.now in
    let here = driver_snapshot_of c.in-Some.node.now in
    let at = node_is driver_snapshot_of c.args.tree.now.nodes.keys c.args.at c.in-Some.node.now p c.in-Some.ensures.key there in
    let all =
    both_added going.pace D going.most c.args.spends here (map driver_snapshot_of c.new-out.result.items) (map driver_snapshot_of c.push_turns.new.out.items) (map driver_snapshot_of c.push_turns-2.new.out.items) (ap (map driver_snapshot_of) c.new-out.ensures.items)
    c.in_ok-push_turns.ensures.turns c.in_ok-push_turns-2.ensures.turns
    in
    subst (λ (s : DriverSnapshot). HasExactly (DriverFollows going.pace D going.most c.args.spends s) (map driver_snapshot_of c.push_turns-2.new.out.items)) at all
