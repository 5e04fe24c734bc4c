use Rattle.std.proofs.Common.{reverse}
use Rattle.pm_cmd_ends.specs.Ending.{taking}
use Rattle.pm_model.specs.Text.{text}
use Rattle.pm_cmd_top.specs.Runs.{RunEnds, whole}
use Rattle.pm_cmd_top.proofs.RunLemmas.{came_whole}
use Rattle.pm_cmd_top.proofs.threads.write_finished.Goals as goal

pub returns : goal.returns
returns g c =
    let plan = c.args.plan.now in
    let lines = c.args.lines.now in
    let out = taking g.O.Sink.taken g.O.Sink.faults c.args.out.now c.write_lines.new.out in
    came_whole (RunEnds plan) ⊥ (text plan lines) out c.write_lines.result
    (whole lines (record {
      lawful = c.requires.lawful;
      of_plan = c.requires.of_plan;
      promises = c.promises_are_kept.ensures plan (reverse lines) c.requires.lawful;
      finished = c.requires.finished;
    }))
    c.write_lines.ensures
