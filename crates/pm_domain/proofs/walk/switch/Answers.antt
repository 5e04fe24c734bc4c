use Rattle.std.proofs.Common.{ℕ, suc, ◌-◌, arith}
use Rattle.pm_domain.proofs.ChainLemmas.{chain-none}
use Rattle.pm_domain.proofs.SwitchLemmas.{marks_are}
use Rattle.pm_domain.proofs.walk.switch.Goals as goal

pub returns-in_default : goal.returns-in_default
returns-in_default c =
    let k : ℕ = c.args.most - c.chain.counter in
    marks_are c.chain.on _ _ c.chain.invariant.owners (rw (c.in_default.is, chain-none c.args.plan.now.domains k) at (c.chain.invariant.left k (omega arith)))

pub chain-preserved : goal.chain-preserved
chain-preserved c = record {
  owners = rw c.set.ensures c.chain.invariant.owners;
  in_range = c.parent-next.ensures.in_range;
  left = λ k sum. rw (c.set.ensures, c.parent-next.ensures.parent) (rw c.in-Some.is at (c.chain.invariant.left (suc k) (omega arith)));
}

pub returns : goal.returns
returns c = marks_are c.chain.on _ _ c.chain.invariant.owners (c.chain.invariant.left 0 (omega arith))
