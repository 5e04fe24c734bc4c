use Rattle.pm_io.specs.Faults.{Rose}
use Rattle.pm_cmd_top.proofs.answers.AuditLemmas.{audited, converted}
use Rattle.pm_cmd_top.proofs.answers.audited.converted_is_audited.Goals as goal

pub returns : goal.returns
returns c all plan trace bytes old new out err verdict took answers has =
    let new_has = converted all plan trace bytes (Rose old new) out err verdict took answers has in
    (new_has, λ told status before after out err. audited plan bytes verdict new_has told status (Rose before after) out err)
