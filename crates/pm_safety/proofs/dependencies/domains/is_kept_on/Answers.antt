use Rattle.std.proofs.Common.{◌∙◌}
use Rattle.pm_safety.proofs.dependencies.DomainLemmas.{fresh_at}
use Rattle.pm_safety.proofs.dependencies.domains.is_kept_on.Goals as goal

pub returns : goal.returns
returns c = c.is_on.ensures ∙ fresh_at c.args.plan.now c.args.fresh.now.on c.args.wanted.0 c.requires.fresh c.requires.in_range
