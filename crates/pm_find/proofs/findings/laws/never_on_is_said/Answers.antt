use Rattle.pm_find.proofs.findings.OnLemmas.{since}
use Rattle.pm_find.proofs.findings.laws.never_on_is_said.Goals as goal

pub returns : goal.returns
returns c = since
