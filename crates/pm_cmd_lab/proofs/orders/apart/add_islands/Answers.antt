-- Island by island.
use Rattle.std.proofs.Common.{◌≡◌, arith, subst}
use Rattle.pm_islands.specs.Numbers.{island_in}
use Rattle.pm_cmd_lab.specs.orders.Apart.{IsSoFar}
use Rattle.pm_cmd_lab.proofs.orders.ApartLemmas.{one_more}
use Rattle.pm_cmd_lab.proofs.orders.apart.add_islands.Goals as goal

pub loop-island-preserved : goal.loop-island-preserved
loop-island-preserved c =
    one_more c.args.bounds c.args.plan.now (island_in c.args.numbers.now) c.loop-island.island c.loop-island.all _ c.loop-island.invariant c.in_ok-add_island.ensures

pub returns : goal.returns
returns c =
    let all_gone : c.loop-island.island ≡ c.args.numbers.now.count = omega (arith, c.loop-island.auto.island-end, c.loop-island-test.false, c.count-island-end.ensures) in
    subst (λ n. IsSoFar c.args.bounds c.args.plan.now (island_in c.args.numbers.now) n c.loop-island.all) all_gone c.loop-island.invariant
