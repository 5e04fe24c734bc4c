-- The plan hasn't too many items, since it wasn't refused for them.
use Rattle.std.proofs.Common.{sym, ◌∙◌}
use Rattle.pm_planread.proofs.FewLemmas.{few_of}
use Rattle.pm_planread.proofs.read.named_plan.Goals as goal

pub names_of-requires : goal.names_of-requires
names_of-requires c = few_of c.args.raw.now (sym c.too_many_fault.ensures ∙ c.in_ok-refuse.ensures.none)
