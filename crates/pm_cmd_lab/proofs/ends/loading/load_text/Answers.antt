use Rattle.std.proofs.lemmas.Result.{err_from_is_err_and}
use Rattle.pm_io.specs.Faults.{Rose}
use Rattle.pm_cmd_lab.proofs.ends.ReadLemmas.{not_held, not_plan}
use Rattle.pm_cmd_lab.proofs.ends.loading.load_text.Goals as goal

pub returns-in_err-bytes-clause-unread : goal.returns-in_err-bytes-clause-unread
returns-in_err-bytes-clause-unread g c =
    let file = c.args.plan.now in
    let known = g.F.Files.told c.args.files.now file in
    let faults = g.F.Files.faults in
    let p = err_from_is_err_and c.from_residual.result c.from_residual.ensures.1 in
    rw (p.1, p.2)
    (not_held g.F.Files.tells_all known file (Rose (faults c.args.files.now) (faults c.plan_bytes.new.files)) c.in_err-bytes.field-0.0 c.in_err-bytes.ensures.unheld)

pub returns-in-Err-Refused-clause-unread : goal.returns-in-Err-Refused-clause-unread
returns-in-Err-Refused-clause-unread g c =
    let file = c.args.plan.now in
    let no = rw c.in-Err-Refused.field-0-is at c.in-Err-Refused.ensures.told in
    not_plan g.F.Files.tells_all (g.F.Files.told c.args.files.now file) file c.as_bytes.result.now c.in_ok-bytes.bytes.items c.deref.result.now
    c.in-Err-Refused.text c.in_ok-bytes.ensures.held c.as_bytes.ensures.value c.deref.ensures.value no
