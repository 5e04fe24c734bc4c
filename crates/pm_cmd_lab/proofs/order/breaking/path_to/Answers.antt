-- The schedule that leads to the first snapshot.
use Rattle.std.proofs.Common.{IfSome, arith, map, subst, sym}
use Rattle.std.proofs.lemmas.List.{length-map}
use Rattle.pm_explore.specs.schedule.Snapshots.{Follows, start_snapshot}
use Rattle.pm_explore.specs.search.Trees.{IsTree}
use Rattle.pm_explore.specs.state.SnapshotOf.{snapshot_of}
use Rattle.pm_outcomes.specs.paths.Runs.{IsAsLed, IsScheduleTo}
use Rattle.pm_cmd_lab.proofs.order.FailLemmas.{far_ends, place_within, path_is}
use Rattle.pm_cmd_lab.proofs.order.breaking.path_to.Goals as goal

pub schedule_to-requires-clause-within : goal.schedule_to-requires-clause-within
schedule_to-requires-clause-within c =
    let found = c.args.all.now.found in
    let inside = place_within c.args.plan.now c.args._each (map snapshot_of found.tree.nodes.keys) found.rounds.items c.args.broken c.requires.first in
    omega (arith, inside, length-map found.tree.nodes.keys snapshot_of)

pub schedule_to-requires-clause-tree : goal.schedule_to-requires-clause-tree
schedule_to-requires-clause-tree c =
    let plan = c.args.plan.now in
    let found = c.args.all.now.found in
    subst (λ p. IsTree (Follows p plan) (start_snapshot plan) (map snapshot_of found.tree.nodes.keys) found.tree.parents.items) (sym c.pace_of.ensures) c.requires.led.tree

pub returns-in-Some-clause-ok : goal.returns-in-Some-clause-ok
returns-in-Some-clause-ok c =
    let plan = c.args.plan.now in
    let all = c.args.all.now in
    let snapshots = map snapshot_of all.found.tree.nodes.keys in
    let pace = c.pace_of.result in
    let at = c.args.broken.place in
    let to = subst (λ f. IfSome f (λ ls. IsScheduleTo pace plan snapshots at ls.items)) c.in-Some.is c.in_ok-lines.ensures.order in
    let few = subst (λ f. IfSome f (λ ls. IsAsLed pace plan snapshots all.found.tree.parents.items at ls.items)) c.in-Some.is c.in_ok-lines.ensures.few in
    path_is c.args.bounds plan all c.args._each c.requires.found c.firsts_decide.ensures.rounds c.args.broken c.in-Some.lines.items pace c.requires.first c.requires.led c.pace_of.ensures to few

pub returns-in_ok-too_far-in-None-clause-err : goal.returns-in_ok-too_far-in-None-clause-err
returns-in_ok-too_far-in-None-clause-err c =
    far_ends c.args.bounds c.args.plan.now c.args.all.now c.args._each c.in_ok-too_far-in-None.field-0.items c.args.broken.place c.requires.found c.in_ok-too_far-in-None.ensures (c.in_ok-lines.ensures.far c.in-None.is)
