use Rattle.std.proofs.Common.{arith}
use Rattle.pm_find.proofs.findings.StepLemmas.{inside_at, kept_more}
use Rattle.pm_find.proofs.findings.telling.after.Goals as goal

pub follow-requires : goal.follow-requires
follow-requires c =
    inside_at c.args.plan.now c.args.lines.now c.loop-line.line-index _ _ c.loop-line-test.true c.loop-line.invariant.kept.known.entries c.requires.of_plan

pub loop-line-preserved : goal.loop-line-preserved
loop-line-preserved c = record {
  kept =
      kept_more c.args.plan.now c.args.lines.now c.loop-line.line-index c.loop-line.number _ c.loop-line.watch c.follow.new.self c.loop-line-test.true c.requires.of_plan c.loop-line.invariant.number
      c.loop-line.invariant.kept c.in_ok-follow.ensures;
  number = omega arith;
}
