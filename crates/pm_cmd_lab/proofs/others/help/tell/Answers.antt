use Rattle.std.proofs.Common.{[]}
use Rattle.pm_cmd_ends.specs.Ending.{taking}
use Rattle.pm_cmd_lab.specs.ends.Coming.{Writes}
use Rattle.pm_cmd_lab.specs.declared.ends.ending.Outcome.TheVariants as outcome
use Rattle.pm_cmd_lab.proofs.ends.EndLemmas.{answered}
use Rattle.pm_cmd_lab.proofs.others.help.tell.Goals as goal

pub returns : goal.returns
returns g c =
    answered (Writes outcome.Done c.args.text.now) [] ⊥ c.write_text.result c.finish.result
    (taking g.O.Sink.taken g.O.Sink.faults c.args.out.now c.write_text.new.out) (taking g.E.Sink.taken g.E.Sink.faults c.args.err.now c.finish.new.err)
    c.write_text.ensures c.finish.ensures.status c.finish.ensures.message
