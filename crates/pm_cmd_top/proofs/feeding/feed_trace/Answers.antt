use Rattle.std.proofs.Common.{◌≡◌, Err, ap}
use Rattle.pm_io.specs.Faults.{Rose}
use Rattle.pm_cmd_top.proofs.TraceLemmas.{trace_calm, trace_not_read}
use Rattle.pm_cmd_top.proofs.feeding.feed_trace.Goals as goal

pub returns-clause-unread : goal.returns-clause-unread
returns-clause-unread g c =
    let files = g.F.Files in
    rw c.trace_fault.ensures
    (trace_not_read files.tells_all (files.told c.args.files.now c.args.trace.now) (Rose (files.faults c.args.files.now) (files.faults c.read_trace.new.files)) c.in-Err.fault
    (λ is. c.in-Err.ensures.failed (ap Err is)) (λ is. c.in-Err.ensures.too_long (ap Err is)))

pub returns-clause-calm : goal.returns-clause-calm
returns-clause-calm g c =
    let faults = g.F.Files.faults in
    rw c.trace_fault.ensures (trace_calm c.in-Err.fault (faults c.read_trace.new.files ≡ faults c.args.files.now) c.in-Err.ensures.calm)
