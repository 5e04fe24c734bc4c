use Rattle.std.proofs.Common.{◌∙◌, arith}
use Rattle.std.proofs.lemmas.Bool.Decides.{nat_tests}
use Rattle.pm_outcomes.proofs.kernel_log.PrefixLemmas.{not_marked}
use Rattle.pm_outcomes.proofs.kernel_log.lines.behind_prefix.Goals as goal

pub returns : goal.returns
returns c = not_marked c.loop-rest.rest.now (grind (arith, nat_tests)) ∙ c.loop-rest.invariant
