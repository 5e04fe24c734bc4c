-- The order of the island is lawful for the plan, and one thread goes on from it.
use Rattle.std.proofs.Common.{reverse}
use Rattle.pm_outcomes.specs.islands.Homes.{home}
use Rattle.pm_cmd_ends.specs.Ending.{taking}
use Rattle.pm_cmd_lab.proofs.order.ShownLemmas.{shown_written}
use Rattle.pm_cmd_lab.specs.orders.Orders.{pace_of}
use Rattle.pm_cmd_lab.proofs.order.order.write_shown.Goals as goal

pub go_on-requires-clause-near : goal.go_on-requires-clause-near
go_on-requires-clause-near g c =
    let path = c.requires.path in
    c.schedules_are_near.ensures (pace_of c.args._bounds) path.part (reverse c.args.lines.now) path.fewest.is_schedule path.lawful

pub go_on-requires-clause-lawful : goal.go_on-requires-clause-lawful
go_on-requires-clause-lawful g c =
    let path = c.requires.path in
    let island = path.at.numbering.island in
    (c.islands_stand_alone.ensures c.args.plan island (home island c.args._observation) path.part (reverse c.args.lines.now) path.at.numbering.shared path.at.is_part path.lawful).0

pub returns : goal.returns
returns g c =
    let gone = c.in_ok-gone.gone in
    let kept = c.lines-run.ensures in
    let path = c.requires.path in
    let island = path.at.numbering.island in
    let stands = (c.islands_stand_alone.ensures c.args.plan island (home island c.args._observation) path.part (reverse c.args.lines.now) path.at.numbering.shared path.at.is_part path.lawful).1 in
    shown_written c.args._bounds c.args.plan gone.book.plan c.plan-spelled.result.now c.args._observation c.args.lines.now c.lines-run.result.now gone.book.lines gone.end c.outcome_of_end-told.result
    (taking g.O.Sink.taken g.O.Sink.faults c.args.out.now c.write_lines.new.out) c.write_lines.result path stands c.in_ok-gone.ensures.plan c.plan-spelled.ensures kept.lines kept.lawful kept.of_plan c.in_ok-gone.ensures.goes_on
    c.outcome_of_end-told.ensures c.write_lines.ensures
