use Rattle.std.proofs.Common.{◌≡◌, length}
use Rattle.pm_state.specs.Chains.{AreChains}
use Rattle.pm_state.proofs.rooms.chains_of.Given as goal

-- the chains of the devices so far
abbrev pub invariant-loop-device : goal.invariant-loop-device
invariant-loop-device l = AreChains l.plan l.chains.items × (length l.chains.items ≡ l.device)
