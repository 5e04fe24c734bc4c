use Rattle.std.proofs.Common.{rules, arith, length}
use Rattle.pm_say.proofs.lints.ChainLemmas.{chain_ended, chain_more}
use Rattle.pm_say.proofs.lints.domains.switch_on.Goals as goal

pub returns-in_default : goal.returns-in_default
returns-in_default c = λ o within. chain_ended c.args.rows.now _ o c.loop-step.next _ _ (search rules) (c.loop-step.invariant o within)

pub loop-step-preserved : goal.loop-step-preserved
loop-step-preserved c =
    λ o within.
    chain_more c.args.rows.now (length c.args.rows.now) c.loop-step._step o c.in-Some.domain c.loop-step.next c.parent_of-next.result _ _ _
    (omega (arith, c.loop-step-test.true)) (search rules) c.parent_of-next.ensures (c.set_mark.ensures o (search rules)) (c.loop-step.invariant o within)
