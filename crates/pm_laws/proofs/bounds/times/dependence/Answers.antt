-- By the rows, one by one.
use Rattle.pm_laws.proofs.bounds.Timeless.{event_arms, event_same, event_timeless}
use Rattle.pm_laws.proofs.bounds.times.dependence.Goals as goal

pub returns-clause-timeless : goal.returns-clause-timeless
returns-clause-timeless c = event_timeless

pub returns-clause-expiring : goal.returns-clause-expiring
returns-clause-expiring c = event_same

pub returns-clause-arming : goal.returns-clause-arming
returns-clause-arming c = event_arms
