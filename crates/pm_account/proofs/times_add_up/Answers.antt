use Rattle.pm_account.proofs.times_add_up.Goals as goal
use Rattle.pm_account.proofs.TimesLemmas.{adds_up}

pub returns : goal.returns
returns c = adds_up
