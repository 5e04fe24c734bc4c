use Rattle.std.proofs.Common.{◌≡◌}
use Rattle.pm_io.specs.Faults.{Rose}
use Rattle.pm_cmd_ends.specs.Ending.{taking}
use Rattle.pm_cmd_ends.specs.Reading.{OfPlan}
use Rattle.pm_cmd_ends.proofs.CalmLemmas.{calm_status}
use Rattle.pm_cmd_ends.proofs.EndLemmas.{answered}
use Rattle.pm_cmd_top.specs.TraceCommands.{OfAudit}
use Rattle.pm_cmd_top.proofs.audit.audit_top.Goals as goal

pub returns-clause-answer : goal.returns-clause-answer
returns-clause-answer g c =
    let files = g.F.Files in
    let told = files.told c.args.files.now in
    let faults = files.faults in
    answered (OfPlan files.tells_all (told c.args.plan.now) (OfAudit files.tells_all (told c.args.trace.now))) (Rose (faults c.args.files.now) (faults c.run_audit.new.files)) c.run_audit.result c.finish.result
    (taking g.O.Sink.taken g.O.Sink.faults c.args.out.now c.run_audit.new.out) (taking g.E.Sink.taken g.E.Sink.faults c.args.err.now c.finish.new.err)
    c.run_audit.ensures.came c.finish.ensures.status c.finish.ensures.message

pub returns-clause-calm : goal.returns-clause-calm
returns-clause-calm g c =
    let faults = g.F.Files.faults in
    calm_status c.run_audit.result c.finish.result (faults c.run_audit.new.files ≡ faults c.args.files.now) c.finish.ensures.status c.run_audit.ensures.calm
