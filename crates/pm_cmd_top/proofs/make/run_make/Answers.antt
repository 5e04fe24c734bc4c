use Rattle.pm_cmd_ends.proofs.EndLemmas.{came_weaker}
use Rattle.pm_cmd_ends.specs.Ending.{taking}
use Rattle.pm_cmd_top.specs.Commands.{MakeEnds, SummaryEnds}
use Rattle.pm_cmd_top.proofs.make.run_make.Goals as goal

pub returns : goal.returns
returns g c =
    let plan = c.in_ok-plan.plan in
    came_weaker (SummaryEnds plan) (MakeEnds c.args.number c.args.devices) ⊥ ⊥
    (λ ending ends. record { plan = plan; generated = c.in_ok-plan.ensures; end_of = ends.end_of; run = ends.run; is = ends.is }) (λ none. none)
    (taking g.O.Sink.taken g.O.Sink.faults c.args.out.now c.count_run.new.out) c.count_run.result c.count_run.ensures
