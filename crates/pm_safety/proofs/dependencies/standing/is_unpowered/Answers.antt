use Rattle.pm_safety.proofs.dependencies.StandLemmas.{unpowered}
use Rattle.pm_safety.proofs.dependencies.standing.is_unpowered.Goals as goal

pub returns : goal.returns
returns c = unpowered c.args.plan.now c.args.parts.now.views c.args.dev c.up_count.result c.up_count.ensures
