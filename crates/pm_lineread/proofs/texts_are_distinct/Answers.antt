-- Reading the text answers one line.
use Rattle.pm_lineread.proofs.Answered.{distinct1, distinct2}
use Rattle.pm_lineread.proofs.texts_are_distinct.Goals as goal

pub returns-clause-text : goal.returns-clause-text
returns-clause-text c plan a b a_is b_is same = distinct1 plan a b a_is b_is same

pub returns-clause-text2 : goal.returns-clause-text2
returns-clause-text2 c plan base a b a_is b_is a_later b_later same = distinct2 plan base a b a_is b_is a_later b_later same
