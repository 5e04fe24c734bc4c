use Rattle.pm_io.specs.Faults.{Rose}
use Rattle.pm_cmd_top.proofs.answers.AuditLemmas.{audited, threads_cut, threads_finished}
use Rattle.pm_cmd_top.proofs.answers.audited.runs_are_audited.Goals as goal

pub returns-clause-finished : goal.returns-clause-finished
returns-clause-finished c all plan bytes old new out err took answers =
    let has = threads_finished all plan bytes (Rose old new) out err took answers in
    (has, λ told status before after out err. audited plan bytes _ has told status (Rose before after) out err)

pub returns-clause-cut : goal.returns-clause-cut
returns-clause-cut c all plan bytes old new out err took answers =
    let has = threads_cut all plan bytes (Rose old new) out err took answers in
    (has, λ told status before after out err. audited plan bytes _ has told status (Rose before after) out err)
