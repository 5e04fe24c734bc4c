use Rattle.std.proofs.Common.{List, reverse, subst}
use Rattle.pm_model.specs.declared.event.Line.{Line}
use Rattle.pm_outcomes.specs.witness.Going.{GoesOnFrom}
use Rattle.pm_cmd_ends.specs.Ending.{taking}
use Rattle.pm_cmd_lab.proofs.order.FindingLemmas.{run_written}
use Rattle.pm_cmd_lab.proofs.order.finding.write_run.Goals as goal

pub returns : goal.returns
returns g c =
    let gone = c.in_ok-gone.gone in
    let kept = c.lines-run.ensures in
    run_written c.args.made gone.book.plan c.plan-spelled.result.now c.lines-run.result.now gone.book.lines gone.end c.outcome_of_end-told.result
    (taking g.O.Sink.taken g.O.Sink.faults c.args.out.now c.write_lines.new.out) c.write_lines.result c.in_ok-gone.ensures.plan c.plan-spelled.ensures kept.lines kept.lawful kept.of_plan (subst (λ (l : List Line). GoesOnFrom c.args.made.run.plan (reverse l) gone.book.lines gone.end) c.as_slice.ensures.value c.in_ok-gone.ensures.goes_on)
    c.outcome_of_end-told.ensures c.write_lines.ensures
