use Rattle.pm_cmd_ends.specs.Ending.{taking}
use Rattle.pm_io.specs.Faults.{Rose}
use Rattle.pm_cmd_lab.proofs.find.CheckLemmas.{over_expected, unread_told}
use Rattle.pm_cmd_lab.specs.orders.Expect.{ExpectEnds}
use Rattle.pm_cmd_lab.proofs.orders.expect.run_expect.Goals as goal

pub returns-in-Ok : goal.returns-in-Ok
returns-in-Ok g c =
    let files = g.F.Files in
    let expect = c.args.expect.now in
    let known = files.told c.args.files.now expect in
    let r = c.in-Ok.read in
    over_expected files.tells_all known expect (ExpectEnds c.args.bounds c.args.differ expect) c.args.plan.now r.text.items r.expected ⊥ (Rose (files.faults c.args.files.now) (files.faults c.expectations.new.files))
    (taking g.O.Sink.taken g.O.Sink.faults c.args.out.now c.write_judged.new.out) c.write_judged.result (λ none. absurd none) c.in-Ok.ensures.read c.write_judged.ensures

pub returns-in-Err : goal.returns-in-Err
returns-in-Err g c =
    let files = g.F.Files in
    let expect = c.args.expect.now in
    let known = files.told c.args.files.now expect in
    unread_told files.tells_all known expect (ExpectEnds c.args.bounds c.args.differ expect) c.args.plan.now c.in-Err.fault (Rose (files.faults c.args.files.now) (files.faults c.expectations.new.files))
    (taking g.O.Sink.taken g.O.Sink.faults c.args.out.now c.tell_unread.new.out) c.tell_unread.result c.in-Err.ensures.unread c.tell_unread.ensures
