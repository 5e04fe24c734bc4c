-- By the lines of the list, one by one.
use Rattle.pm_law_texts.proofs.Behind.{cut_behind, format_kept, header_line, no_header, piece_behind}
use Rattle.pm_law_texts.proofs.behind_lines.Goals as goal

pub returns-clause-piece : goal.returns-clause-piece
returns-clause-piece c = piece_behind

pub returns-clause-cut : goal.returns-clause-cut
returns-clause-cut c = cut_behind

pub returns-clause-format : goal.returns-clause-format
returns-clause-format c = format_kept

pub returns-clause-header : goal.returns-clause-header
returns-clause-header c = header_line

pub returns-clause-no_header : goal.returns-clause-no_header
returns-clause-no_header c = no_header
