use Rattle.pm_cmd_ends.specs.Ending.{taking}
use Rattle.pm_io.specs.Faults.{Rose}
use Rattle.pm_cmd_lab.specs.find.Driver.{DriverEnds}
use Rattle.pm_cmd_lab.proofs.ends.EndLemmas.{answered}
use Rattle.pm_cmd_lab.proofs.find.driver.find_driver_top.Goals as goal

pub returns : goal.returns
returns g c =
    let file = c.args.file.now in
    let known = g.F.Files.told c.args.files.now file in
    let faults = g.F.Files.faults in
    answered (DriverEnds g.F.Files.tells_all known file c.args.bounds c.args.notes) file (Rose (faults c.args.files.now) (faults c.run_driver.new.files)) c.run_driver.result c.finish.result
    (taking g.O.Sink.taken g.O.Sink.faults c.args.out.now c.run_driver.new.out) (taking g.E.Sink.taken g.E.Sink.faults c.args.err.now c.finish.new.err)
    c.run_driver.ensures c.finish.ensures.status c.finish.ensures.message
