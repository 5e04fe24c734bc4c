-- By the first nodes: both numberings have the same, in the same order.
use Rattle.pm_laws.proofs.islands.OneNumbering.{one_count, one_number}
use Rattle.pm_show_runs.proofs.promises.islands.numbered_once.Goals as goal

pub returns-clause-count : goal.returns-clause-count
returns-clause-count c = one_count

pub returns-clause-number : goal.returns-clause-number
returns-clause-number c = one_number
