use Rattle.std.proofs.Common.{◌≡◌, ◌+◌, max, take, arith}
use Rattle.std.proofs.Math.ListN.{get_or}
use Rattle.pm_laws.specs.stacks.Depth.{greatest}
use Rattle.pm_state.proofs.ChainLemmas.{greatest_more, max_is}
use Rattle.pm_state.proofs.rooms.longest.Goals as goal

pub loop-chain-preserved : goal.loop-chain-preserved
loop-chain-preserved c =
    let i = c.loop-chain.chain-index in
    let chains = c.args.chains.now in
    let was : c.loop-chain.longest ≡ max 1 (greatest (λ n. n) (take i chains)) = c.loop-chain.invariant in
    let more = greatest_more (λ n. n) chains i 0 c.loop-chain-test.true in
    let is = max_is c.max-longest.result c.loop-chain.longest (get_or chains i 0) c.max-longest.ensures in
    let now : c.max-longest.result ≡ max 1 (greatest (λ n. n) (take (i + 1) chains)) = omega (arith, was, more, is) in
    now
