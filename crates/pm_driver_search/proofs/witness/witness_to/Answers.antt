-- Each place but the first has its parent before it.
use Rattle.std.proofs.Common.{subst, sym}
use Rattle.pm_explore.specs.search.Trees.{LeadDown}
use Rattle.pm_driver_search.proofs.witness.witness_to.Goals as goal

pub path_back-requires-clause-lead_down : goal.path_back-requires-clause-lead_down
path_back-requires-clause-lead_down c = subst LeadDown (sym c.as_slice-2.ensures.value) c.requires.tree.down
