use Rattle.std.proofs.Common.{length}
use Rattle.pm_safety.proofs.dependencies.DomainLemmas.{among_more}
use Rattle.pm_safety.proofs.dependencies.domains.is_among.Goals as goal

pub loop-step-preserved : goal.loop-step-preserved
loop-step-preserved c =
    among_more c.args.rows.now (length c.args.rows.now) c.loop-step._step c.args.wanted.0 c.in-Some.lower c.loop-step.next c.above-next.result _
    c.loop-step-test.true c.in-Some.is c.if-wanted-lower.false c.above-next.ensures c.loop-step.invariant
