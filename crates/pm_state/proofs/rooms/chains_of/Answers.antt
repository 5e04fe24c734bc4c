use Rattle.std.proofs.Common.{ℕ, ◌∙◌, List, [], ◌∷◌, length, ap, arith, sym}
use Rattle.std.proofs.lemmas.List.{length-append}
use Rattle.pm_base.specs.declared.DevId.{DevId}
use Rattle.pm_state.specs.Chains.{chain_from}
use Rattle.pm_state.proofs.ChainLemmas.{more_chains}
use Rattle.pm_state.proofs.rooms.chains_of.Goals as goal

pub loop-device-preserved : goal.loop-device-preserved
loop-device-preserved c =
    let chains = c.loop-device.chains.items in
    let dev : DevId = record { 0 = c.loop-device.device } in
    let is = c.chain_from-chain.ensures ∙ ap (λ (l : List ℕ). chain_from c.args.plan.now l dev) c.deref.ensures.value in (
      more_chains c.args.plan.now chains c.push.new.self.items dev c.chain_from-chain.result c.loop-device.invariant.0 (sym c.loop-device.invariant.1) is c.in_ok-push.ensures.items,
      omega (arith, ap (λ (l : List ℕ). length l) c.in_ok-push.ensures.items, length-append chains (c.chain_from-chain.result ∷ []), c.loop-device.invariant.1),
    )
