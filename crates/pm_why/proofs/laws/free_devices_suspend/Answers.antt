use Rattle.pm_why.proofs.FreeLemmas.{begins_free, free_begins}
use Rattle.pm_why.proofs.laws.free_devices_suspend.Goals as goal

pub returns-clause-free : goal.returns-clause-free
returns-clause-free c = free_begins

pub returns-clause-kept : goal.returns-clause-kept
returns-clause-kept c = begins_free
