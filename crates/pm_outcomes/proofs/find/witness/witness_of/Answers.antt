use Rattle.std.proofs.Common.{◌≡◌, Some, ap, map, slice_get, subst, sym, ◌∙◌, arith}
use Rattle.std.proofs.lemmas.List.{length-map}
use Rattle.std.proofs.lemmas.Option.{slice_get-get_or}
use Rattle.pm_outcomes.specs.declared.list.observations.Outcome.{Outcome}
use Rattle.pm_explore.specs.state.SnapshotOf.{snapshot_of}
use Rattle.pm_outcomes.specs.paths.Runs.{IsAsLed, IsScheduleTo}
use Rattle.pm_outcomes.specs.find.Had.{IsWitness}
use Rattle.pm_outcomes.proofs.find.Among.{some_is}
use Rattle.pm_outcomes.proofs.find.WitnessLemmas.{by_both, far_somewhere, is_within, is_witness}
use Rattle.pm_outcomes.proofs.find.witness.witness_of.Goals as goal

pub schedule_to-requires-clause-within : goal.schedule_to-requires-clause-within
schedule_to-requires-clause-within c =
    let snapshots = map snapshot_of c.args.all.now.found.tree.nodes.keys in
    let o = c.index-outcome.result.now in
    let there : slice_get c.args.all.now.observations.items c.args.index ≡ Some o = slice_get-get_or c.args.all.now.observations.items c.args.index o c.requires.within ∙ ap Some (sym c.index-outcome.ensures) in
    let within = is_within c.args.plan.now snapshots c.args.all.now.found.rounds.items c.args.all.now.observations.items c.args.index o c.requires.shown there in
    omega (arith, within, length-map c.args.all.now.found.tree.nodes.keys snapshot_of)

pub returns-clause-witness : goal.returns-clause-witness
returns-clause-witness c =
    let plan = c.args.plan.now in
    let snapshots = map snapshot_of c.args.all.now.found.tree.nodes.keys in
    let parents = c.args.all.now.found.tree.parents.items in
    let rounds = c.args.all.now.found.rounds.items in
    let observations = c.args.all.now.observations.items in
    let o = c.index-outcome.result.now in
    let there : slice_get observations c.args.index ≡ Some o = slice_get-get_or observations c.args.index o c.requires.within ∙ ap Some (sym c.index-outcome.ensures) in
    by_both (λ v. IsScheduleTo c.args.pace plan snapshots o.place v.items) (λ v. IsAsLed c.args.pace plan snapshots parents o.place v.items) (λ v. (p : Outcome) → slice_get observations c.args.index ≡ Some p → IsWitness c.args.pace plan rounds p v.items) c.schedule_to.result c.schedule_to.ensures.order
    c.schedule_to.ensures.few (λ v to few. λ p at. subst (λ x. IsWitness c.args.pace plan rounds x v.items) (some_is o p (sym there ∙ at)) (is_witness c.args.pace plan snapshots parents rounds observations c.args.index o v.items c.requires.shown c.requires.led there to few))

pub returns-clause-far : goal.returns-clause-far
returns-clause-far c = far_somewhere c.args.plan.now c.args.all.now.found.tree.parents.items c.index-outcome.result.now.place c.schedule_to.result c.schedule_to.ensures.far
