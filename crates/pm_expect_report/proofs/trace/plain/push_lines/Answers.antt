use Rattle.std.proofs.Common.{arith}
use Rattle.pm_expect_report.proofs.trace.PlainLemmas.{lines_all, lines_more}
use Rattle.pm_expect_report.proofs.trace.plain.push_lines.Goals as goal

pub loop-number-preserved : goal.loop-number-preserved
loop-number-preserved c =
    lines_more c.args.file.now c.args.trace.now c.args.places.now c.args.items.now c.loop-number.number c.index-items-number.result c.args.text.now.items c.loop-number.text.items c.push_failed.new.text.items
    (omega arith) (omega arith) c.index-items-number.is c.loop-number.invariant c.in_ok-push_failed.ensures

pub returns : goal.returns
returns c = lines_all c.args.file.now c.args.trace.now c.args.places.now c.args.items.now c.loop-number.number c.args.text.now.items c.loop-number.text.items c.requires (omega arith) c.loop-number.invariant
