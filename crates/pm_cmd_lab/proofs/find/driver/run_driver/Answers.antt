use Rattle.std.proofs.Common.{refl}
use Rattle.pm_cmd_ends.specs.Ending.{taking}
use Rattle.pm_io.specs.Faults.{Rose}
use Rattle.pm_cmd_lab.proofs.find.DriverLemmas.{driver_held, driver_unheld}
use Rattle.pm_cmd_lab.proofs.find.driver.run_driver.Goals as goal

pub returns-in-Ok : goal.returns-in-Ok
returns-in-Ok g c =
    let file = c.args.file.now in
    let faults = g.F.Files.faults in
    driver_held g.F.Files.tells_all (g.F.Files.told c.args.files.now file) file c.in-Ok.bytes.items c.deref.result.now c.args.bounds c.args.notes
    (Rose (faults c.args.files.now) (faults c.plan_bytes.new.files)) (taking g.O.Sink.taken g.O.Sink.faults c.args.out.now c.write_driver.new.out)
    c.write_driver.result c.in-Ok.ensures.held c.deref.ensures.value c.write_driver.ensures

pub returns-in-Err : goal.returns-in-Err
returns-in-Err g c =
    let file = c.args.file.now in
    let faults = g.F.Files.faults in
    driver_unheld g.F.Files.tells_all (g.F.Files.told c.args.files.now file) file c.args.bounds c.args.notes
    (Rose (faults c.args.files.now) (faults c.plan_bytes.new.files)) (taking g.O.Sink.taken g.O.Sink.faults c.args.out.now c.args.out.now) c.in-Err.fault c.in-Err.ensures.unheld refl
