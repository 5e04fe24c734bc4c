use Rattle.pm_state.specs.Chains.{chain_at}
use Rattle.pm_state.proofs.OwnLemmas.{Walked}
use Rattle.pm_state.proofs.rooms.supplier_chain.Given as goal

-- the longest over the links behind, where the one at hand is the device's own
abbrev pub invariant-loop-left : goal.invariant-loop-left
invariant-loop-left l = Walked l.links l.dev (chain_at l.chains) l.longest l.left

abbrev pub decreases-loop-left : goal.decreases-loop-left
decreases-loop-left l = l.left
