-- The marks stand one behind another.
use Rattle.std.proofs.Common.{ℕ, List, ◌++◌, codes}
use Rattle.pm_driver_runs.specs.PlanText.{flag_line}
use Rattle.pm_driver_runs.proofs.PlanTexts.{last}
use Rattle.pm_driver_runs.proofs.collected.device_text.push_marks.Goals as goal

pub returns : goal.returns
returns c =
    let p0 : List ℕ = flag_line (codes "ignore_children") c.args.row.now.ignore_children in
    let p1 : List ℕ = flag_line (codes "no_callbacks") c.args.row.now.no_callbacks in
    let p2 : List ℕ = flag_line (codes "busy") c.args.row.now.busy in
    last c.push_flag-3.result c.args.text.now.items p0 (p1 ++ p2) c.push_flag.new.text.items c.push_flag-3.new.text.items c.in_ok-push_flag.ensures (last c.push_flag-3.result c.push_flag.new.text.items p1 p2 c.push_flag-2.new.text.items c.push_flag-3.new.text.items c.in_ok-push_flag-2.ensures c.push_flag-3.ensures)
