use Rattle.std.proofs.Common.{refl, subst, sym}
use Rattle.pm_cmd_ends.specs.Ending.{taking}
use Rattle.pm_cmd_ends.specs.Reading.{Holds}
use Rattle.pm_io.specs.Faults.{Rose}
use Rattle.pm_cmd_lab.proofs.orders.SeenLemmas.{log_unread, seen_of_file}
use Rattle.pm_cmd_lab.proofs.orders.seen.run_seen.Goals as goal

pub returns-in-Ok : goal.returns-in-Ok
returns-in-Ok g c =
    let files = g.F.Files in
    let all = files.tells_all in
    let known = files.told c.args.files.now c.args.log.now in
    let out = taking g.O.Sink.taken g.O.Sink.faults c.args.out.now c.write_placed.new.out in
    let holds = subst (λ bytes. Holds all known 67108864 bytes) (sym c.as_slice.ensures.value) c.in-Ok.ensures.held in
    seen_of_file all known c.args.bounds c.args.differ c.args.plan.now (Rose (files.faults c.args.files.now) (files.faults c.log_bytes.new.files)) out c.write_placed.result
    (c.write_placed.ensures all known holds)

pub returns-in-Err : goal.returns-in-Err
returns-in-Err g c =
    let files = g.F.Files in
    let known = files.told c.args.files.now c.args.log.now in
    let out = taking g.O.Sink.taken g.O.Sink.faults c.args.out.now c.args.out.now in
    log_unread files.tells_all known c.args.bounds c.args.differ c.args.plan.now (Rose (files.faults c.args.files.now) (files.faults c.log_bytes.new.files)) out c.in-Err.fault c.in-Err.ensures.unheld refl
