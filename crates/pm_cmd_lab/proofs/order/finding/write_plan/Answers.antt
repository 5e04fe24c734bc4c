use Rattle.std.proofs.Common.{refl, true}
use Rattle.pm_cmd_ends.specs.Ending.{taking}
use Rattle.pm_cmd_lab.proofs.order.FindingLemmas.{plan_written}
use Rattle.pm_cmd_lab.proofs.order.finding.write_plan.Goals as goal

pub returns : goal.returns
returns g c =
    plan_written c.args.made true c.as_slice.result.now (taking g.O.Sink.taken g.O.Sink.faults c.args.out.now c.write_text.new.out) c.write_text.result refl c.as_slice.ensures.value c.write_text.ensures
