use Rattle.pm_cmd_ends.specs.Ending.{taking}
use Rattle.pm_io.specs.Faults.{Rose}
use Rattle.pm_cmd_lab.proofs.others.SayLemmas.{long_written, said_of_file}
use Rattle.pm_cmd_lab.proofs.others.say.run_say.Goals as goal

pub returns-in-Ok : goal.returns-in-Ok
returns-in-Ok g c =
    let file = c.args.plan.now in
    let faults = g.F.Files.faults in
    said_of_file g.F.Files.tells_all (g.F.Files.told c.args.files.now file) file c.in-Ok.bytes.items c.deref.result.now
    (Rose (faults c.args.files.now) (faults c.plan_bytes.new.files)) (taking g.O.Sink.taken g.O.Sink.faults c.args.out.now c.write_said.new.out)
    c.write_said.result c.in-Ok.ensures.held c.deref.ensures.value c.write_said.ensures

pub returns-in-Err-Refused : goal.returns-in-Err-Refused
returns-in-Err-Refused g c =
    let file = c.args.plan.now in
    let faults = g.F.Files.faults in
    let same = rw c.in-Err-Refused.field-0-is at c.as_slice.ensures.value in
    let unheld = rw c.in-Err-Refused.field-0-is at c.in-Err-Refused.ensures.unheld in
    long_written g.F.Files.tells_all (g.F.Files.told c.args.files.now file) file c.in-Err-Refused.text.items c.as_slice.result.now
    (Rose (faults c.args.files.now) (faults c.plan_bytes.new.files)) (taking g.O.Sink.taken g.O.Sink.faults c.args.out.now c.write_text.new.out)
    c.write_text.result unheld.0 unheld.1 same c.write_text.ensures
