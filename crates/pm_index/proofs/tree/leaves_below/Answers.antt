use Rattle.std.proofs.Common.{◌≤◌, arith}
use Rattle.std.proofs.lemmas.Nat.{one_shl}
use Rattle.std.proofs.Math.Pow.{pow_mono}
use Rattle.pm_index.specs.Tree.{first_leaf}
use Rattle.pm_index.proofs.tree.leaves_below.Goals as goal

pub returns-clause-leaves : goal.returns-clause-leaves
unfolding first_leaf
returns-clause-leaves c = omega (arith, one_shl c.args.levels 64 (omega arith))

pub returns-clause-few : goal.returns-clause-few
returns-clause-few c =
    let few : c.args.levels ≤ 32 = c.requires in
    omega (arith, one_shl c.args.levels 64 (omega arith), pow_mono few)
