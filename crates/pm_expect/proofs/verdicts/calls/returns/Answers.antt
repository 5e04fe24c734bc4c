use Rattle.std.proofs.Common.{arith, length}
use Rattle.pm_expect.proofs.verdicts.CallLemmas.{calls_more, returns_more}
use Rattle.pm_expect.proofs.verdicts.calls.returns.Goals as goal

pub loop-line-preserved : goal.loop-line-preserved
loop-line-preserved c = record {
  calls =
      calls_more (length c.args.plan.now.callers) c.args.lines.now c.loop-line.line-index _ c.loop-line.calls c.follow.new.self c.loop-line-test.true
      (c.follow.ensures (length c.args.plan.now.callers)) c.loop-line.invariant.calls;
  number = omega arith;
  found =
      returns_more c.args.plan.now c.args.lines.now c.loop-line.line-index c.loop-line.number _ c.loop-line.calls c.loop-line.all.items c.push.new.all.items c.loop-line-test.true
      c.requires.of_plan c.loop-line.invariant.number c.loop-line.invariant.calls c.loop-line.invariant.found (rw c.returned_at.ensures at c.in_ok-push.ensures);
}
