use Rattle.std.proofs.Common.{ℕ, suc, ◌-◌, ◌∙◌, append-nil, sym, arith}
use Rattle.pm_lanes.proofs.TellLemmas.{chain_begun, chain_on, chain_stop}
use Rattle.pm_lanes.proofs.telling.chain.Goals as goal

pub chain-init : goal.chain-init
chain-init c = λ k is. chain_begun _ c.args.plan.now.domains k c.args.most c.args.first c.new-all.ensures.items is

pub returns-in_default : goal.returns-in_default
returns-in_default c =
    let k : ℕ = c.args.most - c.chain.counter in
    chain_stop _ _ c.args.plan.now.domains k c.chain.next c.in_default.is (c.chain.invariant k (omega arith))

pub chain-preserved : goal.chain-preserved
chain-preserved c = λ k is.
    chain_on c.chain.all.items _ _ c.args.plan.now.domains k c.chain.next _ c.in-Some.dom c.in-Some.is c.in_ok-push.ensures.items c.parent_of-next.ensures (c.chain.invariant (suc k) (omega arith))

pub returns : goal.returns
returns c = sym (append-nil c.chain.all.items) ∙ c.chain.invariant 0 (omega arith)
