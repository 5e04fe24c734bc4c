use Rattle.std.proofs.Common.{◌+◌, ℕ, List}
use Rattle.pm_model.specs.declared.event.Command.{Command}
use Rattle.pm_outcomes.specs.text.Texts.{call_line, command_line}
use Rattle.pm_outcomes.proofs.text.TextLemmas.{command_here, line_more}
use Rattle.pm_outcomes.proofs.text.lines.push_script.Goals as goal

pub loop-place-preserved : goal.loop-place-preserved
loop-place-preserved c =
    let line : List ℕ → Command → List ℕ = λ name command. call_line c.args.plan.now c.args.differ c.args.outcomes.now c.args.caller name (c.loop-place.place + 1) command in
    let here = command_here line c.as_slice.result.now c.args.row.now.name c.as_slice-script.result.now c.args.row.now.script c.loop-place.place _ c.as_slice.ensures c.as_slice-script.ensures c.loop-place-test.true in
    line_more (command_line c.args.plan.now c.args.differ c.args.outcomes.now c.args.caller c.args.row.now) c.args.text.now.items c.loop-place.text.items c.push_call.new.text.items c.loop-place.place _ c.loop-place.invariant
    c.in_ok-push_call.ensures here
