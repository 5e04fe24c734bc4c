use Rattle.pm_io.specs.Faults.{Rose}
use Rattle.pm_model.specs.Verdict.{YesFinished}
use Rattle.pm_cmd_top.proofs.HeadlineLemmas.{has_verdict, judged, wrote}
use Rattle.pm_cmd_top.proofs.answers.AuditLemmas.{audited}
use Rattle.pm_cmd_top.proofs.headline.headline_holds.Goals as goal

pub returns : goal.returns
returns c = record {
  writes_runs = wrote;
  audits_exactly = judged;
  runs_are_audited = λ plan_bytes bytes is all status old new out err. audited plan_bytes bytes YesFinished (has_verdict plan_bytes bytes is) all status (Rose old new) out err;
}
