use Rattle.std.proofs.Common.{refl}
use Rattle.pm_cmd_ends.specs.Ending.{taking}
use Rattle.pm_io.specs.Faults.{Rose}
use Rattle.pm_cmd_lab.proofs.picture.PictureLemmas.{drawn_of_file, long_refused}
use Rattle.pm_cmd_lab.proofs.picture.top.run_picture.Goals as goal

pub returns-in-Ok : goal.returns-in-Ok
returns-in-Ok g c =
    let files = g.F.Files in
    let trace = c.args.trace.now in
    drawn_of_file files.tells_all (files.told c.args.files.now trace) trace c.args.json c.args.plan c.in-Ok.drawn (Rose (files.faults c.args.files.now) (files.faults c.draw_file.new.files))
    (taking g.O.Sink.taken g.O.Sink.faults c.args.out.now c.write_drawn.new.out) c.write_drawn.result c.in-Ok.ensures.drawn c.write_drawn.ensures

pub returns-in_ok-text-in-Err-TooLong : goal.returns-in_ok-text-in-Err-TooLong
returns-in_ok-text-in-Err-TooLong g c =
    let files = g.F.Files in
    let trace = c.args.trace.now in
    let long = rw c.in-Err-TooLong.field-0-is at c.in-Err-TooLong.ensures.not_drawn in
    long_refused files.tells_all (files.told c.args.files.now trace) trace c.args.json c.args.plan c.in_ok-text-in-Err-TooLong.text (Rose (files.faults c.args.files.now) (files.faults c.draw_file.new.files))
    (taking g.O.Sink.taken g.O.Sink.faults c.args.out.now c.args.out.now) long c.in_ok-text-in-Err-TooLong.ensures refl
