use Rattle.std.proofs.Common.{◌≤◌, arith}
use Rattle.pm_index.proofs.PlaceLemmas.{no_moments, no_shown}
use Rattle.pm_index.proofs.moments.Moments.new.Goals as goal

pub invariant_of-result : goal.invariant_of-result
invariant_of-result c =
    let levels = c.levels_for-levels in
    let leaves = c.leaves_below-leaves in
    let enough : c.args.places ≤ leaves.result = omega (arith, levels.ensures.enough, leaves.ensures.leaves) in
    rw (c.in_ok-nodes.ensures, c.in_ok-new.ensures) (no_moments c.args.places leaves.result levels.result levels.ensures.few leaves.ensures.leaves enough)

pub returns : goal.returns
returns c =
    let leaves = c.leaves_below-leaves in
    let enough : c.args.places ≤ leaves.result = omega (arith, c.levels_for-levels.ensures.enough, leaves.ensures.leaves) in
    rw (c.in_ok-nodes.ensures, c.in_ok-new.ensures) (no_shown c.args.places leaves.result enough)
