use Rattle.std.proofs.Common.{List, map, subst, ◌∙◌}
use Rattle.pm_driver_rules.specs.GoingOn.{driver_of}
use Rattle.pm_driver_rules.specs.Nodes.{driver_snapshot_of}
use Rattle.pm_driver_find.specs.declared.sights.DriverSight.{DriverSight}
use Rattle.pm_driver_find.specs.Told.{AreToldExactly}
use Rattle.pm_driver_find.proofs.ToldLemmas.{told_exactly}
use Rattle.pm_driver_find.proofs.finding.all_driver_findings.Goals as goal

pub returns-clause-told : goal.returns-clause-told
returns-clause-told c = λ k bound is.
    let D = driver_of c.args.examined.now.rules.now in
    subst (λ (l : List DriverSight). AreToldExactly c.args.examined.now c.args.pace D c.args.failures k bound l c.in_ok-told.told.items) (c.as_slice.ensures.value ∙ c.in_ok-sights.ensures)
    (told_exactly c.args.examined.now c.args.pace D c.args.failures k (map driver_snapshot_of c.in_ok-found.found.tree.nodes.keys) bound c.as_slice.result.now c.in_ok-told.told.items (c.in_ok-found.ensures.rounds k bound is) c.in_ok-told.ensures)
