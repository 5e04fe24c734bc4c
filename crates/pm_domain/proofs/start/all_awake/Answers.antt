use Rattle.pm_domain.proofs.MemberLemmas.{homes_below}
use Rattle.pm_domain.proofs.start.all_awake.Goals as goal

pub new-requires-clause-below : goal.new-requires-clause-below
new-requires-clause-below c = rw (c.in_ok-homes.ensures, c.len.ensures) (homes_below c.args.plan.now)
