use Rattle.pm_cmd_ends.specs.Ending.{taking}
use Rattle.pm_io.specs.Faults.{Rose}
use Rattle.pm_cmd_lab.specs.others.Commands.{KernelEnds}
use Rattle.pm_cmd_lab.specs.ends.Reading.{OfPlan}
use Rattle.pm_cmd_lab.proofs.ends.EndLemmas.{answered}
use Rattle.pm_cmd_lab.proofs.others.kernel.kernel_top.Goals as goal

pub returns : goal.returns
returns g c =
    let file = c.args.plan.now in
    let known = g.F.Files.told c.args.files.now file in
    let faults = g.F.Files.faults in
    answered (OfPlan g.F.Files.tells_all known file KernelEnds) file (Rose (faults c.args.files.now) (faults c.run_kernel.new.files)) c.run_kernel.result c.finish.result
    (taking g.O.Sink.taken g.O.Sink.faults c.args.out.now c.run_kernel.new.out) (taking g.E.Sink.taken g.E.Sink.faults c.args.err.now c.finish.new.err)
    c.run_kernel.ensures c.finish.ensures.status c.finish.ensures.message
