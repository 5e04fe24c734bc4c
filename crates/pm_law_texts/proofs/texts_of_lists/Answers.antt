use Rattle.pm_law_texts.proofs.OwnText as own
use Rattle.pm_law_texts.proofs.texts_of_lists.Goals as goal

pub returns-clause-own : goal.returns-clause-own
returns-clause-own c = own.own_stands

pub returns-clause-format2 : goal.returns-clause-format2
returns-clause-format2 c = own.format2_stands

pub returns-clause-own_short : goal.returns-clause-own_short
returns-clause-own_short c = own.own_short

pub returns-clause-format2_short : goal.returns-clause-format2_short
returns-clause-format2_short c = own.format2_short
