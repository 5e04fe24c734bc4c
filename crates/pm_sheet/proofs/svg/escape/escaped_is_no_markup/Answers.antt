use Rattle.pm_sheet.proofs.svg.EscapeLemmas.{is_no_markup_all}
use Rattle.pm_sheet.proofs.svg.escape.escaped_is_no_markup.Goals as goal

pub returns : goal.returns
returns c = is_no_markup_all
