use Rattle.std.proofs.Common.{◌∙◌, arith, map}
use Rattle.std.proofs.lemmas.List.{take_all}
use Rattle.pm_explore.specs.state.SnapshotOf.{snapshot_of}
use Rattle.pm_expect_report.proofs.orders.JudgeLemmas.{each_more, firsts_more, lines_more}
use Rattle.pm_expect_report.proofs.orders.judging.judge_all.Goals as goal

pub loop-number-preserved : goal.loop-number-preserved
loop-number-preserved c =
    let old = c.loop-number.all.items in
    let new = c.push_one.new.all.items in
    let j = c.in_ok-judged.judged in
    let found = c.args.found.now in
    record {
      each = each_more old new j c.args.each.now c.loop-number.number _ (omega arith) c.in_ok-judged.ensures.same c.loop-number.invariant.each c.in_ok-push_one.ensures;
      firsts = firsts_more c.args.plan.now (map snapshot_of found.tree.nodes.keys) found.rounds.items old new j c.loop-number.invariant.firsts c.in_ok-judged.ensures.first c.in_ok-push_one.ensures;
      lines = lines_more c.args.text.now old new j c.loop-number.invariant.lines c.in_ok-judged.ensures.line c.in_ok-push_one.ensures;
    }

pub returns-clause-each : goal.returns-clause-each
returns-clause-each c = c.loop-number.invariant.each ∙ take_all c.loop-number.number c.args.each.now (omega arith)
