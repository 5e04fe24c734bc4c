use Rattle.pm_cmd_top.proofs.OneRun.{one_gathered}
use Rattle.pm_cmd_top.proofs.laws.gathered_once.Goals as goal

pub returns : goal.returns
returns c = one_gathered
