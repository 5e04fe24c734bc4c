-- By the law that schedules are ways.
use Rattle.std.proofs.Common.{map}
use Rattle.pm_explore.specs.state.SnapshotOf.{snapshot_of}
use Rattle.pm_outcomes.proofs.paths.FoundLemmas.{of_all_schedules, of_schedules}
use Rattle.pm_outcomes.proofs.paths.searching.all_schedules.Goals as goal

pub returns-clause-rounds : goal.returns-clause-rounds
returns-clause-rounds c = λ k bound is.
    let plan = c.args.plan.now in
    of_schedules c.args.pace plan k (map snapshot_of c.search.result.tree.nodes.keys) bound (c.schedules_are_paths.ensures.reached c.args.pace plan) (c.schedules_are_paths.ensures.ordered c.args.pace plan) (c.search.ensures.rounds k bound is)

pub returns-clause-whole : goal.returns-clause-whole
returns-clause-whole c = λ is.
    let plan = c.args.plan.now in
    of_all_schedules c.args.pace plan (map snapshot_of c.search.result.tree.nodes.keys) (c.schedules_are_paths.ensures.reached c.args.pace plan) (c.schedules_are_paths.ensures.ordered c.args.pace plan) (c.search.ensures.whole is)
