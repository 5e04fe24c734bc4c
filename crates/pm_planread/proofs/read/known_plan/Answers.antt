-- The plan hasn't too many items, since it wasn't refused for them.
use Rattle.pm_planread.proofs.FewLemmas.{few_of}
use Rattle.pm_planread.proofs.read.known_plan.Goals as goal

pub ordered_plan-requires-clause-few : goal.ordered_plan-requires-clause-few
ordered_plan-requires-clause-few c = few_of c.args.raw.now c.requires.few
