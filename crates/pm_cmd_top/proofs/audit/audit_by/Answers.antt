use Rattle.std.proofs.Common.{◌≡◌, ◌∙◌, refl, subst, sym}
use Rattle.std.proofs.lemmas.Result.{err_from_is_err_and}
use Rattle.pm_audit.specs.Auditing.{verdict_of}
use Rattle.pm_io.specs.Faults.{Rose}
use Rattle.pm_cmd_ends.specs.Coming.{Came, Work}
use Rattle.pm_cmd_ends.specs.Ending.{SaidNo, Took, TookPart, taking}
use Rattle.pm_cmd_ends.proofs.CalmLemmas.{handed_on}
use Rattle.pm_cmd_top.specs.TraceCommands.{AuditEnds, OfAudit}
use Rattle.pm_cmd_top.proofs.TraceLemmas.{came_no_trace, said, said_part}
use Rattle.pm_cmd_top.proofs.audit.audit_by.Goals as goal

pub returns-in_err-verdict-clause-came : goal.returns-in_err-verdict-clause-came
returns-in_err-verdict-clause-came g c =
    let files = g.F.Files in
    let p = err_from_is_err_and c.from_residual.result c.from_residual.ensures.1 in
    rw (p.1, p.2)
    (came_no_trace files.tells_all (files.told c.args.files.now c.args.trace.now) c.args.plan SaidNo (AuditEnds c.args.plan) (Rose (files.faults c.args.files.now) (files.faults c.judge_trace.new.files))
    (taking g.O.Sink.taken g.O.Sink.faults c.args.out.now c.args.out.now) c.in_err-verdict.field-0.0 c.in_err-verdict.ensures.unread refl)

pub returns-in_err-write_whole-clause-came : goal.returns-in_err-write_whole-clause-came
returns-in_err-write_whole-clause-came g c =
    let files = g.F.Files in
    let p = err_from_is_err_and c.from_residual-in_err-write_whole.result c.from_residual-in_err-write_whole.ensures.1 in
    let out = taking g.O.Sink.taken g.O.Sink.faults c.args.out.now c.write_whole.new.sink in
    rw (p.1, p.2)
    (said_part files.tells_all (files.told c.args.files.now c.args.trace.now) c.args.plan (verdict_of c.in_ok-verdict.verdict) (Rose (files.faults c.args.files.now) (files.faults c.judge_trace.new.files)) out
    c.promises_are_kept.ensures c.in_ok-verdict.ensures.judged
    (subst (TookPart out) (c.as_slice.ensures ∙ c.verdict_line.ensures) c.in_err-write_whole.ensures.prefix) c.in_err-write_whole.ensures.failed)

pub returns-clause-came : goal.returns-clause-came
returns-clause-came g c =
    let files = g.F.Files in
    let told = files.told c.args.files.now c.args.trace.now in
    let Unread = Rose (files.faults c.args.files.now) (files.faults c.judge_trace.new.files) in
    let out = taking g.O.Sink.taken g.O.Sink.faults c.args.out.now c.write_whole.new.sink in
    subst (λ (work : Work). Came (OfAudit files.tells_all told c.args.plan) work Unread out) (sym c.verdict_work.ensures)
    (said files.tells_all told c.args.plan (verdict_of c.in_ok-verdict.verdict) Unread out c.promises_are_kept.ensures c.in_ok-verdict.ensures.judged
    (subst (Took out) (c.as_slice.ensures ∙ c.verdict_line.ensures) c.in_ok-write_whole.ensures.bytes))

pub returns-in_err-verdict-clause-calm : goal.returns-in_err-verdict-clause-calm
returns-in_err-verdict-clause-calm g c =
    let faults = g.F.Files.faults in
    let p = err_from_is_err_and c.from_residual.result c.from_residual.ensures.1 in
    rw (p.1, p.2) (handed_on c.in_err-verdict.field-0.0 (faults c.judge_trace.new.files ≡ faults c.args.files.now) c.in_err-verdict.ensures.calm)
