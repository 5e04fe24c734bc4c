use Rattle.std.proofs.Common.{◌∙◌}
use Rattle.pm_turns.proofs.AfterLemmas.{last_is_newest}
use Rattle.pm_turns.proofs.turns.newest.Goals as goal

pub returns : goal.returns
returns c = c.last.ensures.value ∙ last_is_newest c.args.lines.now
