-- Piece by piece.
use Rattle.std.proofs.Common.{codes}
use Rattle.pm_linetext.proofs.AppendLemmas.{done}
use Rattle.pm_outcomes.specs.text.Seen.{few_text}
use Rattle.pm_outcomes.proofs.text.seen.push_none_within.Goals as goal

pub returns : goal.returns
returns c = done c.args.text.now.items c.push.new.text.items c.push_few.new.text.items (codes "in no schedule") (few_text c.args.round) c.push_few.result c.in_ok-push.ensures c.push_few.ensures
