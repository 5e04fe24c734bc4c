-- By the first bad line, and by whether the list is finished.
use Rattle.pm_law_texts.proofs.OneVerdict.{only_verdict, some_verdict}
use Rattle.pm_law_texts.proofs.one_verdict.Goals as goal

pub returns-clause-some : goal.returns-clause-some
returns-clause-some c = some_verdict

pub returns-clause-only : goal.returns-clause-only
returns-clause-only c = only_verdict
