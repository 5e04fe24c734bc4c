-- By what follows the lines.
use Rattle.pm_law_texts.proofs.Numbered.{counts, cut_is_bad, goes_on, went_on}
use Rattle.pm_law_texts.proofs.Walk.{sorted}
use Rattle.pm_law_texts.proofs.next_line.Goals as goal

pub returns-clause-sorts : goal.returns-clause-sorts
returns-clause-sorts c = sorted

pub returns-clause-good : goal.returns-clause-good
returns-clause-good c = goes_on

pub returns-clause-lawful : goal.returns-clause-lawful
returns-clause-lawful c = went_on

pub returns-clause-cut : goal.returns-clause-cut
returns-clause-cut c = cut_is_bad

pub returns-clause-numbered : goal.returns-clause-numbered
returns-clause-numbered c = counts
