use Rattle.std.proofs.Common.{map}
use Rattle.pm_driver_rules.specs.GoingOn.{driver_of}
use Rattle.pm_driver_rules.specs.Nodes.{driver_snapshot_of}
use Rattle.pm_driver_search.proofs.FoundLemmas.{of_all_schedules, of_schedules}
use Rattle.pm_driver_search.proofs.searching.all_driver_schedules.Goals as goal

pub returns-clause-rounds : goal.returns-clause-rounds
returns-clause-rounds c = λ k bound is.
    let D = driver_of c.args.rules.now in
    of_schedules c.args.pace D c.args.failures k (map driver_snapshot_of c.search.result.tree.nodes.keys) bound (c.driver_schedules_are_paths.ensures.reached c.args.pace D c.args.failures) (c.driver_schedules_are_paths.ensures.ordered c.args.pace D c.args.failures) (c.search.ensures.rounds k bound is)

pub returns-clause-whole : goal.returns-clause-whole
returns-clause-whole c = λ is.
    let D = driver_of c.args.rules.now in
    of_all_schedules c.args.pace D c.args.failures (map driver_snapshot_of c.search.result.tree.nodes.keys) (c.driver_schedules_are_paths.ensures.reached c.args.pace D c.args.failures) (c.driver_schedules_are_paths.ensures.ordered c.args.pace D c.args.failures) (c.search.ensures.whole is)
