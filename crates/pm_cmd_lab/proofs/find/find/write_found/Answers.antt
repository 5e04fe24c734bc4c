use Rattle.pm_cmd_ends.specs.Ending.{taking}
use Rattle.pm_cmd_lab.proofs.find.FindLemmas.{found_written}
use Rattle.pm_cmd_lab.proofs.find.find.write_found.Goals as goal

pub returns : goal.returns
returns g c =
    found_written c.as_slice.result.now c.args.found.now c.outcome_of_find.result (taking g.O.Sink.taken g.O.Sink.faults c.args.out.now c.write_text.new.out) c.write_text.result
    c.outcome_of_find.ensures c.as_slice.ensures.value c.write_text.ensures
