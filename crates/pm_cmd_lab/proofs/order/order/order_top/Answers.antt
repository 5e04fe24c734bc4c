use Rattle.pm_cmd_ends.specs.Ending.{taking}
use Rattle.pm_io.specs.Faults.{Rose}
use Rattle.pm_cmd_lab.specs.ends.Reading.{OfPlan}
use Rattle.pm_cmd_lab.specs.order.Order.{OrderEnds}
use Rattle.pm_cmd_lab.proofs.order.WorkLemmas.{answered_after}
use Rattle.pm_lab_words.specs.Request.{sought_in}
use Rattle.pm_cmd_lab.proofs.order.order.order_top.Goals as goal

pub returns : goal.returns
returns g c =
    let file = c.args.plan.now in
    let known = g.F.Files.told c.args.files.now file in
    let faults = g.F.Files.faults in
    answered_after (OfPlan g.F.Files.tells_all known file (OrderEnds c.args.bounds (sought_in c.args.asked))) file (Rose (faults c.args.files.now) (faults c.run_order.new.files)) c.run_order.result c.end.result
    (taking g.O.Sink.taken g.O.Sink.faults c.args.out.now c.run_order.new.out) (taking g.E.Sink.taken g.E.Sink.faults c.args.err.now c.end.new.err)
    c.run_order.ensures c.end.ensures.status c.end.ensures.message
