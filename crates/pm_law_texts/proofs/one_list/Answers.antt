-- By the last line, and by the first byte.
use Rattle.pm_law_texts.proofs.Formats.{format_is, only_list}
use Rattle.std.proofs.Common.{true, false}
use Rattle.pm_law_texts.proofs.one_list.Goals as goal

pub returns-clause-list : goal.returns-clause-list
returns-clause-list c = only_list

pub returns-clause-format1 : goal.returns-clause-format1
returns-clause-format1 c = λ plan bytes h text. format_is false plan bytes h (text.0, tt, text.1)

pub returns-clause-format2 : goal.returns-clause-format2
returns-clause-format2 c = λ plan bytes h text. format_is true plan bytes h text
