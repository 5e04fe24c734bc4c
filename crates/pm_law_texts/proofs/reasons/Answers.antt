-- Each reason by what the others say of the line.
use Rattle.pm_law_texts.proofs.WhyBad.{only_reason, reason_first, some_reason}
use Rattle.pm_law_texts.proofs.reasons.Goals as goal

pub returns-clause-some : goal.returns-clause-some
returns-clause-some c = some_reason

pub returns-clause-only : goal.returns-clause-only
returns-clause-only c = only_reason

pub returns-clause-bad : goal.returns-clause-bad
returns-clause-bad c = reason_first
