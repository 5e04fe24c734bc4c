use Rattle.std.proofs.Common.{reverse}
use Rattle.pm_cmd_ends.specs.Ending.{taking}
use Rattle.pm_cmd_lab.specs.orders.Orders.{pace_of}
use Rattle.pm_cmd_lab.proofs.order.BrokenLemmas.{broken_written}
use Rattle.pm_cmd_lab.proofs.order.failing.write_broken.Goals as goal

pub go_on-requires-clause-near : goal.go_on-requires-clause-near
go_on-requires-clause-near g c =
    let path = c.requires.path in
    c.schedules_are_near.ensures (pace_of c.args._bounds) c.args.plan (reverse c.args.lines.now) path.fewest.so.is_schedule path.lawful

pub returns : goal.returns
returns g c =
    let gone = c.in_ok-gone.gone in
    let kept = c.lines-run.ensures in
    broken_written c.args._bounds c.args.plan gone.book.plan c.plan-spelled.result.now c.args._each c.args.lines.now c.lines-run.result.now gone.book.lines gone.end c.outcome_of_end-told.result
    (taking g.O.Sink.taken g.O.Sink.faults c.args.out.now c.write_lines.new.out) c.write_lines.result c.requires.path c.in_ok-gone.ensures.plan c.plan-spelled.ensures kept.lines kept.lawful kept.of_plan c.in_ok-gone.ensures.goes_on
    c.outcome_of_end-told.ensures c.write_lines.ensures
