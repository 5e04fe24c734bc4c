-- By walking from node to node.
use Rattle.pm_show_runs.proofs.promises.Apart.{are_apart, are_joined}
use Rattle.pm_show_runs.proofs.promises.islands.connected.Goals as goal

pub returns-clause-joined : goal.returns-clause-joined
returns-clause-joined c = are_joined

pub returns-clause-apart : goal.returns-clause-apart
returns-clause-apart c = are_apart
