use Rattle.pm_index.proofs.TreeLemmas.{below_power, enough_leaves, one_leaf}
use Rattle.pm_index.proofs.tree.levels_for.Goals as goal
use Rattle.std.proofs.Common.{arith, ◌-◌}

pub returns-else-places-le1-clause-few : goal.returns-else-places-le1-clause-few
returns-else-places-le1-clause-few c =
    omega (arith, below_power c.ilog2.result 32 (c.args.places - 1) c.ilog2.ensures.power_le (omega arith))

pub returns-then-places-le1-clause-enough : goal.returns-then-places-le1-clause-enough
returns-then-places-le1-clause-enough c = one_leaf c.args.places (omega arith)

pub returns-else-places-le1-clause-enough : goal.returns-else-places-le1-clause-enough
returns-else-places-le1-clause-enough c = enough_leaves c.args.places c.ilog2.result c.ilog2.ensures.next_power_gt
