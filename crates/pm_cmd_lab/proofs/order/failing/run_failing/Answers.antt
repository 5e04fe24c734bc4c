use Rattle.pm_cmd_ends.specs.Ending.{taking}
use Rattle.pm_io.specs.Faults.{Rose}
use Rattle.pm_cmd_lab.specs.order.Failing.{FailingEnds}
use Rattle.pm_cmd_lab.proofs.order.FailLemmas.{came_expected, came_unread_file}
use Rattle.pm_cmd_lab.proofs.order.failing.run_failing.Goals as goal

pub returns-in-Ok : goal.returns-in-Ok
returns-in-Ok g c =
    let files = g.F.Files in
    let expect = c.args.expect.now in
    let r = c.in-Ok.read in
    came_expected files.tells_all (files.told c.args.files.now expect) expect (FailingEnds c.args.bounds c.args.index) c.args.plan r.text.items r.expected (Rose (files.faults c.args.files.now) (files.faults c.expectations.new.files))
    (taking g.O.Sink.taken g.O.Sink.faults c.args.out.now c.write_failing.new.out) c.write_failing.result c.in-Ok.ensures.read (c.write_failing.ensures r.text.items)

pub returns-in-Err : goal.returns-in-Err
returns-in-Err g c =
    let files = g.F.Files in
    let expect = c.args.expect.now in
    came_unread_file files.tells_all (files.told c.args.files.now expect) expect (FailingEnds c.args.bounds c.args.index) c.args.plan c.in-Err.fault (Rose (files.faults c.args.files.now) (files.faults c.expectations.new.files))
    (taking g.O.Sink.taken g.O.Sink.faults c.args.out.now c.told_unread.new.out) c.told_unread.result c.in-Err.ensures.unread c.told_unread.ensures
