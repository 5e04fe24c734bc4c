use Rattle.std.proofs.Common.{refl}
use Rattle.pm_cmd_ends.specs.Ending.{taking}
use Rattle.pm_io.specs.Faults.{Rose}
use Rattle.pm_cmd_lab.proofs.order.FindingLemmas.{finding_held, finding_unheld}
use Rattle.pm_cmd_lab.proofs.order.finding.run_finding.Goals as goal

pub returns-in-Ok : goal.returns-in-Ok
returns-in-Ok g c =
    let file = c.args.file.now in
    let faults = g.F.Files.faults in
    finding_held g.F.Files.tells_all (g.F.Files.told c.args.files.now file) file c.in-Ok.bytes.items c.deref.result.now c.args.asked
    (Rose (faults c.args.files.now) (faults c.plan_bytes.new.files)) (taking g.O.Sink.taken g.O.Sink.faults c.args.out.now c.write_finding.new.out)
    c.write_finding.result c.in-Ok.ensures.held c.deref.ensures.value c.write_finding.ensures

pub returns-in-Err : goal.returns-in-Err
returns-in-Err g c =
    let file = c.args.file.now in
    let faults = g.F.Files.faults in
    finding_unheld g.F.Files.tells_all (g.F.Files.told c.args.files.now file) file c.args.asked
    (Rose (faults c.args.files.now) (faults c.plan_bytes.new.files)) (taking g.O.Sink.taken g.O.Sink.faults c.args.out.now c.args.out.now) c.in-Err.fault c.in-Err.ensures.unheld refl
