use Rattle.pm_cmd_ends.specs.Ending.{taking}
use Rattle.pm_io.specs.Faults.{Rose}
use Rattle.pm_cmd_lab.specs.order.Finding.{FindingEnds}
use Rattle.pm_cmd_lab.proofs.order.WorkLemmas.{answered_after}
use Rattle.pm_cmd_lab.proofs.order.finding.finding_top.Goals as goal

pub returns : goal.returns
returns g c =
    let file = c.args.file.now in
    let known = g.F.Files.told c.args.files.now file in
    let faults = g.F.Files.faults in
    answered_after (FindingEnds g.F.Files.tells_all known file c.args.asked) file (Rose (faults c.args.files.now) (faults c.run_finding.new.files)) c.run_finding.result c.end.result
    (taking g.O.Sink.taken g.O.Sink.faults c.args.out.now c.run_finding.new.out) (taking g.E.Sink.taken g.E.Sink.faults c.args.err.now c.end.new.err)
    c.run_finding.ensures c.end.ensures.status c.end.ensures.message
