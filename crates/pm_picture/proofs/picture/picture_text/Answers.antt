use Rattle.pm_picture.proofs.CallLemmas.{picture_ok}
use Rattle.pm_picture.proofs.picture.picture_text.Goals as goal

pub returns-clause-picture : goal.returns-clause-picture
returns-clause-picture c = picture_ok c.picture_of.result c.args.lines.now c.picture_of.ensures
