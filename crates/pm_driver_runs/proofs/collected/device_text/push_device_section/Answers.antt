-- The parts of a section stand one behind another.
use Rattle.std.proofs.Common.{ℕ, List, ◌++◌, codes}
use Rattle.pm_driver_runs.specs.PlanText.{device_codes, device_marks, device_places, device_section, device_times}
use Rattle.pm_driver_runs.proofs.PlanTexts.{last}
use Rattle.pm_driver_runs.proofs.collected.device_text.push_device_section.Goals as goal

pub returns : goal.returns
unfolding device_section
returns c =
    let p0 : List ℕ = codes "\n[[device]]\n" in
    let p1 : List ℕ = device_places c.args.plan.now c.args.row.now in
    let p2 : List ℕ = device_marks c.args.row.now in
    let p3 : List ℕ = device_codes c.args.row.now in
    let p4 : List ℕ = device_times c.args.row.now in
    last c.push_times.result c.args.text.now.items p0 (p1 ++ (p2 ++ (p3 ++ p4))) c.push.new.text.items c.push_times.new.text.items c.in_ok-push.ensures (last c.push_times.result c.push.new.text.items p1 (p2 ++ (p3 ++ p4)) c.push_places.new.text.items c.push_times.new.text.items c.in_ok-push_places.ensures (last c.push_times.result c.push_places.new.text.items p2 (p3 ++ p4) c.push_marks.new.text.items c.push_times.new.text.items c.in_ok-push_marks.ensures (last c.push_times.result c.push_marks.new.text.items p3 p4 c.push_answers.new.text.items c.push_times.new.text.items c.in_ok-push_answers.ensures c.push_times.ensures)))
