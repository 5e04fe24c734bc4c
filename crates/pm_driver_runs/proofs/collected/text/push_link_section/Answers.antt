-- The lines of a section stand one behind another.
use Rattle.std.proofs.Common.{ℕ, List, ◌++◌, Some, codes}
use Rattle.pm_driver_runs.specs.PlanText.{device_line, flag_line, link_section, runtime_line}
use Rattle.pm_driver_runs.proofs.PlanTexts.{last}
use Rattle.pm_driver_runs.proofs.collected.text.push_link_section.Goals as goal

pub returns : goal.returns
unfolding link_section
returns c =
    let p0 : List ℕ = codes "\n[[link]]\n" in
    let p1 : List ℕ = device_line c.args.plan.now (codes "consumer") (Some c.args.row.now.consumer) in
    let p2 : List ℕ = device_line c.args.plan.now (codes "supplier") (Some c.args.row.now.supplier) in
    let p3 : List ℕ = runtime_line c.args.row.now.pm_runtime in
    let p4 : List ℕ = flag_line (codes "later") c.args.row.now.later in
    last c.push_flag.result c.args.text.now.items p0 (p1 ++ (p2 ++ (p3 ++ p4))) c.push.new.text.items c.push_flag.new.text.items c.in_ok-push.ensures (last c.push_flag.result c.push.new.text.items p1 (p2 ++ (p3 ++ p4)) c.push_device_line.new.text.items c.push_flag.new.text.items c.in_ok-push_device_line.ensures (last c.push_flag.result c.push_device_line.new.text.items p2 (p3 ++ p4) c.push_device_line-2.new.text.items c.push_flag.new.text.items c.in_ok-push_device_line-2.ensures (last c.push_flag.result c.push_device_line-2.new.text.items p3 p4 c.push_runtime.new.text.items c.push_flag.new.text.items c.in_ok-push_runtime.ensures c.push_flag.ensures)))
