use Rattle.std.proofs.Common.{ap, arith, ◌∙◌}
use Rattle.pm_base.specs.declared.DevId.{DevId}
use Rattle.pm_find.specs.findings.Kept.{Known}
use Rattle.pm_find.specs.findings.WatchTable.{counts_in}
use Rattle.pm_find.proofs.findings.StepLemmas.{bonds_more, drops_more, found_more, inside_at, inside_by, kept_more, line_at, stands_at}
use Rattle.pm_find.proofs.findings.telling.at_lines.Goals as goal

pub tell_line-requires-clause-at_end : goal.tell_line-requires-clause-at_end
tell_line-requires-clause-at_end c =
    inside_at c.args.plan.now c.args.lines.now c.loop-line.line-index _ _ c.loop-line-test.true c.requires.left c.requires.of_plan

pub tell_line-requires-clause-before : goal.tell_line-requires-clause-before
tell_line-requires-clause-before c =
    inside_at c.args.plan.now c.args.lines.now c.loop-line.line-index _ _ c.loop-line-test.true c.loop-line.invariant.kept.known.entries c.requires.of_plan

pub row-row-requires : goal.row-row-requires
row-row-requires c =
    inside_by c.args.plan.now c.args.lines.now c.loop-line.line-index _ _ c.device_of.result c.device_of.ensures c.loop-line-test.true c.loop-line.invariant.kept.known.entries c.requires.of_plan

pub tell_placed-requires-clause-of_plan : goal.tell_placed-requires-clause-of_plan
tell_placed-requires-clause-of_plan c = line_at c.args.plan.now c.args.lines.now c.loop-line.line-index _ c.loop-line-test.true c.requires.of_plan

pub tell_placed-requires-clause-some : goal.tell_placed-requires-clause-some
tell_placed-requires-clause-some c =
    stands_at c.args.plan.now c.args.lines.now c.loop-line.line-index c.loop-line.number _ c.loop-line.bonds c.loop-line.drops c.loop-line-test.true c.requires.lawful c.loop-line.invariant.number c.loop-line.invariant.bonds c.loop-line.invariant.dropped

pub follow-requires : goal.follow-requires
follow-requires c =
    inside_at c.args.plan.now c.args.lines.now c.loop-line.line-index _ _ c.loop-line-test.true c.loop-line.invariant.kept.known.entries c.requires.of_plan

pub loop-line-preserved : goal.loop-line-preserved
loop-line-preserved c = record {
  kept =
      kept_more c.args.plan.now c.args.lines.now c.loop-line.line-index c.loop-line.number _ c.loop-line.watch c.follow.new.self c.loop-line-test.true c.requires.of_plan c.loop-line.invariant.number
      c.loop-line.invariant.kept c.in_ok-follow.ensures;
  number = omega arith;
  bonds =
      bonds_more c.args.plan.now c.args.lines.now c.loop-line.line-index c.loop-line.number _ c.loop-line.bonds c.tell_placed.new.bonds c.loop-line-test.true c.requires.lawful c.loop-line.invariant.number
      c.loop-line.invariant.bonds c.in_ok-tell_placed.ensures.kept;
  dropped =
      drops_more c.args.plan.now c.args.lines.now c.loop-line.line-index c.loop-line.number _ c.loop-line.bonds c.loop-line.drops c.tell_placed.new.drops c.loop-line-test.true c.requires.lawful c.loop-line.invariant.number
      c.loop-line.invariant.bonds c.loop-line.invariant.dropped c.in_ok-tell_placed.ensures.dropped;
  found =
      found_more c.args.plan.now c.args.lines.now c.loop-line.line-index c.loop-line.number _ c.args.left.now c.args.ends.now c.loop-line.watch c.loop-line.bonds c.called-called.result c.row-row.result.now.counts
      c.loop-line.all.items c.tell_line.new.all.items c.tell_placed.new.all.items
      c.loop-line-test.true c.requires.lawful c.requires.of_plan c.loop-line.invariant.number c.loop-line.invariant.kept c.loop-line.invariant.bonds c.loop-line.invariant.found c.in_ok-tell_line.ensures
      c.called-called.ensures (ap (λ (x : Known). x.counts) c.row-row.ensures ∙ ap (λ (d : DevId). counts_in c.loop-line.watch d) c.device_of.ensures) c.in_ok-tell_placed.ensures.told;
}
