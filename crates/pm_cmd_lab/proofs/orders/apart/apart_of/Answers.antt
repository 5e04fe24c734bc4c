use Rattle.pm_islands.specs.Numbers.{island_in}
use Rattle.pm_cmd_lab.proofs.orders.ApartLemmas.{none_yet}
use Rattle.pm_cmd_lab.proofs.orders.apart.apart_of.Goals as goal

pub add_islands-requires-clause-none : goal.add_islands-requires-clause-none
add_islands-requires-clause-none c =
    let none = c.no_island-all.ensures in
    none_yet c.args.bounds c.args.plan.now (island_in c.in_ok-numbers.numbers) c.no_island-all.result none.observations none.exact none.snapshots
