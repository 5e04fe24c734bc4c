use Rattle.std.proofs.Common.{refl}
use Rattle.pm_outcomes.specs.text.Texts.{end_line}
use Rattle.pm_outcomes.proofs.text.TextLemmas.{line_more}
use Rattle.pm_outcomes.proofs.text.lines.push_ends.Goals as goal

pub loop-device-preserved : goal.loop-device-preserved
loop-device-preserved c =
    let f = end_line c.args.plan.now c.args.differ c.args.outcomes.now in
    line_more f c.args.text.now.items c.loop-device.text.items c.push_end.new.text.items c.loop-device.device (f c.loop-device.device) c.loop-device.invariant c.in_ok-push_end.ensures refl
