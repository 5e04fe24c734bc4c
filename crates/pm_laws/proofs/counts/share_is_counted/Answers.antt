use Rattle.std.proofs.Common.{arith}
use Rattle.pm_laws.proofs.counts.share_is_counted.Goals as goal
use Rattle.pm_laws.proofs.counts.Said.{share_counted}

pub returns-clause-given_back : goal.returns-clause-given_back
returns-clause-given_back c = share_counted

pub returns-clause-left : goal.returns-clause-left
returns-clause-left c = λ plan h d lawful within. omega (arith, share_counted plan h d lawful within)
