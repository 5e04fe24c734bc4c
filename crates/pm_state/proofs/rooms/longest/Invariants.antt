use Rattle.std.proofs.Common.{◌≡◌, max, take}
use Rattle.pm_laws.specs.stacks.Depth.{greatest}
use Rattle.pm_state.proofs.rooms.longest.Given as goal

-- the longest of those so far, at least 1
abbrev pub invariant-loop-chain : goal.invariant-loop-chain
invariant-loop-chain l = l.longest ≡ max 1 (greatest (λ n. n) (take l.chain-index l.chains))
