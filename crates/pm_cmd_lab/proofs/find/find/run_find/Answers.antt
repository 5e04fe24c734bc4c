use Rattle.std.proofs.Common.{refl}
use Rattle.pm_cmd_ends.specs.Ending.{taking}
use Rattle.pm_io.specs.Faults.{Rose}
use Rattle.pm_cmd_lab.proofs.find.FindLemmas.{found_of_file, long_refused}
use Rattle.pm_cmd_lab.proofs.find.find.run_find.Goals as goal

pub returns-in-Ok : goal.returns-in-Ok
returns-in-Ok g c =
    let files = g.F.Files in
    let trace = c.args.trace.now in
    found_of_file files.tells_all (files.told c.args.files.now trace) c.args.name.now trace c.args.read.text.items c.as_bytes.result.now c.deref.result.now c.args.notes c.args.read.plan c.in-Ok.found (Rose (files.faults c.args.files.now) (files.faults c.find.new.files))
    (taking g.O.Sink.taken g.O.Sink.faults c.args.out.now c.write_found.new.out) c.write_found.result c.requires c.as_bytes.ensures.value c.deref.ensures.value c.in-Ok.ensures.told c.write_found.ensures

pub returns-in-Err-TooLong : goal.returns-in-Err-TooLong
returns-in-Err-TooLong g c =
    let files = g.F.Files in
    let trace = c.args.trace.now in
    let long = rw c.in-Err-TooLong.field-0-is at c.in-Err-TooLong.ensures.not_told in
    long_refused files.tells_all (files.told c.args.files.now trace) c.args.name.now trace c.args.notes c.args.read.plan c.in_ok-text-in-Err-TooLong.text (Rose (files.faults c.args.files.now) (files.faults c.find.new.files))
    (taking g.O.Sink.taken g.O.Sink.faults c.args.out.now c.args.out.now) long c.in_ok-text-in-Err-TooLong.ensures refl
