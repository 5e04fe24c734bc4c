use Rattle.pm_picture.proofs.events.PlainLemmas.{is_plain_all}
use Rattle.pm_picture.proofs.events.plain.plain_is_no_markup.Goals as goal

pub returns : goal.returns
returns c = is_plain_all
