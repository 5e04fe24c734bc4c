use Rattle.std.proofs.Common.{length, refl}
use Rattle.pm_islands.proofs.Numbered.{numbering_is}
use Rattle.pm_islands.proofs.numbers.islands.Goals as goal

pub returns : goal.returns
returns c =
    numbering_is c.args.plan.now c.label.new.labels c.of_callers.result.now (length c.label.new.labels) c.rank.result
    c.label.ensures c.of_callers.ensures refl c.rank.ensures
