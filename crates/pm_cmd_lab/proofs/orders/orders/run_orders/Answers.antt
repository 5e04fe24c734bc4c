use Rattle.std.proofs.Common.{refl}
use Rattle.std.proofs.lemmas.Result.{err_from_is_err_and}
use Rattle.pm_cmd_ends.specs.Ending.{taking}
use Rattle.pm_io.specs.Faults.{Rose}
use Rattle.pm_cmd_lab.specs.orders.Orders.{OrdersEnds}
use Rattle.pm_cmd_lab.proofs.ends.ReadLemmas.{came_read, came_unread}
use Rattle.pm_cmd_lab.proofs.orders.orders.run_orders.Goals as goal

pub returns-in_err-plan : goal.returns-in_err-plan
returns-in_err-plan g c =
    let file = c.args.plan.now in
    let known = g.F.Files.told c.args.files.now file in
    let faults = g.F.Files.faults in
    let p = err_from_is_err_and c.from_residual.result c.from_residual.ensures.1 in
    rw (p.1, p.2)
    (came_unread g.F.Files.tells_all known file (OrdersEnds c.args.bounds c.args.differ) (Rose (faults c.args.files.now) (faults c.load.new.files))
    (taking g.O.Sink.taken g.O.Sink.faults c.args.out.now c.args.out.now) c.in_err-plan.field-0.0 c.in_err-plan.ensures.unread refl)

pub returns : goal.returns
returns g c =
    let file = c.args.plan.now in
    let known = g.F.Files.told c.args.files.now file in
    let faults = g.F.Files.faults in
    came_read g.F.Files.tells_all known file c.in_ok-plan.plan (OrdersEnds c.args.bounds c.args.differ) ⊥ (Rose (faults c.args.files.now) (faults c.load.new.files))
    (taking g.O.Sink.taken g.O.Sink.faults c.args.out.now c.write_orders.new.out) c.write_orders.result (λ none. absurd none) c.in_ok-plan.ensures.read c.write_orders.ensures
