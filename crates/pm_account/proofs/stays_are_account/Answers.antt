use Rattle.pm_account.proofs.AllKeptLemmas.{account_is}
use Rattle.pm_account.proofs.stays_are_account.Goals as goal

pub returns : goal.returns
returns c = account_is
