use Rattle.pm_domain.proofs.MemberLemmas.{above_below}
use Rattle.pm_domain.proofs.start.kept_on.Goals as goal

pub new-requires-clause-below : goal.new-requires-clause-below
new-requires-clause-below c = rw (c.in_ok-above.ensures, c.len.ensures) (above_below c.args.plan.now)
