use Rattle.pm_safety.proofs.BondLemmas.{domains_are}
use Rattle.pm_safety.proofs.holding.domain_bond.Goals as goal

pub returns : goal.returns
returns c = λ h same. rw (c.answer.ensures, c.has_domain.ensures, c.up_count.ensures, same) (domains_are c.args.plan.now h c.args.dev c.args.live)
