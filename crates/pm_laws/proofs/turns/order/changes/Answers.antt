use Rattle.pm_laws.proofs.turns.order.changes.Goals as goal
use Rattle.pm_laws.proofs.turns.Nearness.{change_apart, event_apart}

pub returns-clause-events : goal.returns-clause-events
returns-clause-events c = event_apart

pub returns-clause-named : goal.returns-clause-named
returns-clause-named c = change_apart
