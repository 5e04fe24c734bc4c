-- The schedule of the observation at a place.
use Rattle.std.proofs.Common.{◌≡◌, Some, IfSome, map, slice_get, subst, sym}
use Rattle.pm_outcomes.specs.declared.list.observations.Outcome.{Outcome}
use Rattle.pm_outcomes.specs.find.Had.{IsWitness}
use Rattle.pm_explore.specs.schedule.Snapshots.{Follows, start_snapshot}
use Rattle.pm_explore.specs.search.Trees.{AreLed, IsTree}
use Rattle.pm_explore.specs.state.SnapshotOf.{snapshot_of}
use Rattle.pm_cmd_lab.proofs.order.ObservationLemmas.{far_ends, place_within, path_is}
use Rattle.pm_cmd_lab.proofs.order.path.path_to.Goals as goal

pub witness_of-requires-clause-within : goal.witness_of-requires-clause-within
witness_of-requires-clause-within c = place_within c.args.all.now.observations.items c.args._observation c.args.place c.requires.at

pub witness_of-requires-clause-tree : goal.witness_of-requires-clause-tree
witness_of-requires-clause-tree c =
    let plan = c.args.part.now in
    let found = c.args.all.now.found in
    subst (λ p. IsTree (Follows p plan) (start_snapshot plan) (map snapshot_of found.tree.nodes.keys) found.tree.parents.items) (sym c.pace_of.ensures) c.requires.led.tree

pub witness_of-requires-clause-led : goal.witness_of-requires-clause-led
witness_of-requires-clause-led c =
    let plan = c.args.part.now in
    let found = c.args.all.now.found in
    subst (λ p. AreLed (Follows p plan) (map snapshot_of found.tree.nodes.keys) found.tree.parents.items found.rounds.items) (sym c.pace_of.ensures) c.requires.led.led

pub returns-in-Some-clause-ok : goal.returns-in-Some-clause-ok
returns-in-Some-clause-ok c =
    let part = c.args.part.now in
    let all = c.args.all.now in
    let place = c.args.place in
    let pace = c.pace_of.result in
    let witness = subst (λ f. IfSome f (λ ls. (o : Outcome) → slice_get all.observations.items place ≡ Some o → IsWitness pace part all.found.rounds.items o ls.items)) c.in-Some.is c.in_ok-lines.ensures.witness in
    path_is pace c.args.bounds c.args._plan.now part all c.args._observation place c.in-Some.lines.items c.requires.home c.requires.found c.requires.at c.pace_of.ensures witness

pub returns-in_ok-too_far-in-None-clause-err : goal.returns-in_ok-too_far-in-None-clause-err
returns-in_ok-too_far-in-None-clause-err c =
    far_ends c.args.bounds c.args._plan.now c.args.part.now c.args.all.now c.args._observation c.in_ok-too_far-in-None.field-0.items c.requires.home c.requires.found c.in_ok-too_far-in-None.ensures (c.in_ok-lines.ensures.far c.in-None.is)
