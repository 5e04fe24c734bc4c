use Rattle.pm_cmd_top.specs.Commands.{MakeEnds}
use Rattle.pm_cmd_ends.specs.Ending.{taking}
use Rattle.pm_cmd_ends.proofs.EndLemmas.{answered}
use Rattle.pm_cmd_top.proofs.make.make_top.Goals as goal

pub returns : goal.returns
returns g c =
    answered (MakeEnds c.args.number c.args.devices) ⊥ c.run_make.result c.finish.result
    (taking g.O.Sink.taken g.O.Sink.faults c.args.out.now c.run_make.new.out) (taking g.E.Sink.taken g.E.Sink.faults c.args.err.now c.finish.new.err)
    c.run_make.ensures c.finish.ensures.status c.finish.ensures.message
