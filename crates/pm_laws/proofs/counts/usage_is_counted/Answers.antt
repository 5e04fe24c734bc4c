use Rattle.std.proofs.Common.{arith}
use Rattle.pm_laws.proofs.counts.usage_is_counted.Goals as goal
use Rattle.pm_laws.proofs.counts.Said.{usage_counted}

pub returns-clause-given_back : goal.returns-clause-given_back
returns-clause-given_back c = usage_counted

pub returns-clause-left : goal.returns-clause-left
returns-clause-left c = λ plan h d lawful within. omega (arith, usage_counted plan h d lawful within)
