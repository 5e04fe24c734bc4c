use Rattle.std.proofs.Common.{arith}
use Rattle.pm_expect.proofs.FewLemmas.{few_times}
use Rattle.pm_expect.proofs.fields.times_by.Goals as goal

pub returns-clause-few : goal.returns-clause-few
returns-clause-few c = omega (arith, few_times c.args.plan.now c.args.caller c.args.command.now, c.counted.ensures)
