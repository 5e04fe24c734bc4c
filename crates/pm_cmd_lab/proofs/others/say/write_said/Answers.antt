use Rattle.pm_cmd_ends.specs.Ending.{taking}
use Rattle.pm_cmd_lab.proofs.others.SayLemmas.{said_written}
use Rattle.pm_cmd_lab.proofs.others.say.write_said.Goals as goal

pub returns : goal.returns
returns g c =
    said_written c.args.plan.now c.as_bytes.result.now c.args.bytes.now c.as_slice.result.now c.in_ok-said.said c.outcome_of.result
    (taking g.O.Sink.taken g.O.Sink.faults c.args.out.now c.write_text.new.out) c.write_text.result
    c.in_ok-said.ensures c.as_bytes.ensures.value c.outcome_of.ensures c.as_slice.ensures.value c.write_text.ensures
