use Rattle.pm_cmd_ends.specs.Ending.{taking}
use Rattle.pm_cmd_lab.proofs.picture.PictureLemmas.{drawn_written}
use Rattle.pm_cmd_lab.proofs.picture.top.write_drawn.Goals as goal

pub returns : goal.returns
returns g c =
    drawn_written c.as_slice.result.now c.args.drawn.now c.outcome_of_picture.result (taking g.O.Sink.taken g.O.Sink.faults c.args.out.now c.write_text.new.out) c.write_text.result
    c.outcome_of_picture.ensures c.as_slice.ensures.value c.write_text.ensures
