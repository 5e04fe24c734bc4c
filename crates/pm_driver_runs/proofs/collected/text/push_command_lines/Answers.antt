-- The commands stand one behind another.
use Rattle.std.proofs.Common.{ℕ, List, ◌++◌, codes}
use Rattle.pm_driver_runs.specs.PlanText.{command_line, each_text}
use Rattle.pm_driver_runs.proofs.PlanTexts.{last}
use Rattle.pm_driver_runs.proofs.collected.text.push_command_lines.Goals as goal

pub returns : goal.returns
returns c =
    let p0 : List ℕ = codes "script = [\n" in
    let p1 : List ℕ = each_text (command_line c.args.plan.now) c.args.script.now in
    let p2 : List ℕ = codes "]\n" in
    last c.push-2.result c.args.text.now.items p0 (p1 ++ p2) c.push.new.text.items c.push-2.new.text.items c.in_ok-push.ensures (last c.push-2.result c.push.new.text.items p1 p2 c.push_commands.new.text.items c.push-2.new.text.items c.in_ok-push_commands.ensures c.push-2.ensures)
