use Rattle.pm_io.specs.Faults.{Rose}
use Rattle.pm_cmd_top.proofs.answers.AuditLemmas.{audited}
use Rattle.pm_cmd_top.proofs.answers.audited.audit_is_exact.Goals as goal

pub returns : goal.returns
returns c = λ plan bytes verdict has all status old new out err. audited plan bytes verdict has all status (Rose old new) out err
