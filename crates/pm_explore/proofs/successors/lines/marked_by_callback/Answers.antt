use Rattle.std.proofs.Common.{sym, arith}
use Rattle.pm_explore.proofs.successors.Busy.{unmarked}
use Rattle.pm_explore.proofs.successors.lines.marked_by_callback.Goals as goal

pub returns-then-dev-len : goal.returns-then-dev-len
returns-then-dev-len c = let all = c.len.ensures in let past = c.if-dev-len.true in sym (unmarked c.args.plan.now c.args.dev (omega (arith, all, past)))
