use Rattle.std.proofs.Common.{◌≡◌, ap, Err, rules}
use Rattle.std.proofs.lemmas.Result.{err_from_is_err_and}
use Rattle.pm_io.specs.Faults.{Rose}
use Rattle.pm_cmd_ends.proofs.CalmLemmas.{file_calm}
use Rattle.pm_cmd_ends.proofs.ReadLemmas.{file_not_read, plan_not_read}
use Rattle.pm_cmd_ends.proofs.loading.load.Goals as goal

pub returns-in_err-bytes-clause-unread : goal.returns-in_err-bytes-clause-unread
returns-in_err-bytes-clause-unread g c =
    let told = g.F.Files.told c.args.files.now c.args.plan.now in
    let faults = g.F.Files.faults in
    let p = err_from_is_err_and c.from_residual.result c.from_residual.ensures.1 in
    rw (p.1, p.2)
    (file_not_read g.F.Files.tells_all told (Rose (faults c.args.files.now) (faults c.read_all.new.files)) c.in_err-bytes.field-0.0
    (λ is. c.in_err-bytes.ensures.failed (ap Err is)) (λ is. record { longer = c.in_err-bytes.ensures.longer (ap Err is); is_there = c.in_err-bytes.ensures.longer_there (ap Err is) }))

pub returns-in_err-read_plan-clause-unread : goal.returns-in_err-read_plan-clause-unread
returns-in_err-read_plan-clause-unread g c =
    let told = g.F.Files.told c.args.files.now c.args.plan.now in
    let faults = g.F.Files.faults in
    let p = err_from_is_err_and c.from_residual-in_err-read_plan.result c.from_residual-in_err-read_plan.ensures.1 in
    rw (p.1, p.2)
    (plan_not_read g.F.Files.tells_all told (Rose (faults c.args.files.now) (faults c.read_all.new.files)) c.in_ok-bytes.bytes.items c.in_err-read_plan.field-0.0
    (record { told_so = c.in_ok-bytes.ensures.bytes; is_there = c.in_ok-bytes.ensures.there; within = search rules })
    (rw c.deref.ensures.value at c.in_err-read_plan.ensures.fault))

pub returns-in_err-bytes-clause-calm : goal.returns-in_err-bytes-clause-calm
returns-in_err-bytes-clause-calm g c =
    let faults = g.F.Files.faults in
    let p = err_from_is_err_and c.from_residual.result c.from_residual.ensures.1 in
    rw (p.1, p.2) (file_calm c.in_err-bytes.field-0.0 (faults c.read_all.new.files ≡ faults c.args.files.now) c.in_err-bytes.ensures.calm)
