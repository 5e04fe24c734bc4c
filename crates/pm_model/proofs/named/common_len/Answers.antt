use Rattle.std.proofs.Common.{arith}
use Rattle.pm_model.proofs.CommonLen.{common_len-neighbours}
use Rattle.pm_model.proofs.named.common_len.Goals as goal

pub returns : goal.returns
returns g c =
    let neighbours = common_len-neighbours _ _ c.requires _ _ c.count_before-at.ensures in
    grind (arith, neighbours)
