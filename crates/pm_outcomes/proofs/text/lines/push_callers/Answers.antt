use Rattle.pm_outcomes.specs.text.Texts.{caller_lines, script_lines}
use Rattle.pm_outcomes.proofs.text.TextLemmas.{line_more, row_here}
use Rattle.pm_outcomes.proofs.text.lines.push_callers.Goals as goal

pub loop-caller-preserved : goal.loop-caller-preserved
loop-caller-preserved c =
    let told = script_lines c.args.plan.now c.args.differ c.args.outcomes.now c.loop-caller.caller in
    let row = c.index-rows-caller.result in
    let here = row_here told c.as_slice-rows.result.now c.args.plan.now.callers c.loop-caller.caller row c.as_slice-rows.ensures c.loop-caller-test.true c.index-rows-caller.is in
    line_more (caller_lines c.args.plan.now c.args.differ c.args.outcomes.now) c.args.text.now.items c.loop-caller.text.items c.push_script.new.text.items c.loop-caller.caller (told row) c.loop-caller.invariant c.in_ok-push_script.ensures here
