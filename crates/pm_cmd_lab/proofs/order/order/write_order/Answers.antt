use Rattle.std.proofs.Common.{refl}
use Rattle.std.proofs.lemmas.Result.{err_from_is_err_and}
use Rattle.pm_cmd_ends.specs.Ending.{taking}
use Rattle.pm_cmd_lab.proofs.order.WorkLemmas.{came_not_shown}
use Rattle.pm_cmd_lab.proofs.order.order.write_order.Goals as goal

pub returns-in_err-lines : goal.returns-in_err-lines
returns-in_err-lines g c =
    let p = err_from_is_err_and c.from_residual.result c.from_residual.ensures.1 in
    rw (p.1, p.2) (came_not_shown c.args.bounds c.args.plan c.args.observation c.in_err-lines.field-0.0 (taking g.O.Sink.taken g.O.Sink.faults c.args.out.now c.args.out.now) c.in_err-lines.ensures.err refl)

pub returns-in_err-outcome : goal.returns-in_err-outcome
returns-in_err-outcome g c =
    let p = err_from_is_err_and c.from_residual-in_err-outcome.result c.from_residual-in_err-outcome.ensures.1 in
    rw (p.1, p.2) c.in_err-outcome.ensures

pub returns : goal.returns
returns g c = c.in_ok-outcome.ensures
