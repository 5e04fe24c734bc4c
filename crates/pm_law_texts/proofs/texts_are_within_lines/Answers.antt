-- By the text of each event.
use Rattle.pm_law_texts.proofs.OneLine.{line_clean}
use Rattle.pm_law_texts.proofs.texts_are_within_lines.Goals as goal

pub returns : goal.returns
returns c = line_clean
