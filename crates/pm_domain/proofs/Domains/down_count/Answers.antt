use Rattle.std.proofs.Common.{◌≡◌, ◌∙◌, None, ap, length, sym, zero-add, arith}
use Rattle.pm_model.specs.PlanRows.{chain, domain_parent, domains_of}
use Rattle.pm_domain.specs.Walk.{going_off_from}
use Rattle.pm_domain.proofs.ChainLemmas.{chain-none, chain_step}
use Rattle.pm_domain.proofs.WalkLemmas.{counted_last, counted_off, down-walked, few_going_off}
use Rattle.pm_domain.proofs.Domains.down_count.Goals as goal

pub loop-next-init : goal.loop-next-init
unfolding domains_of
loop-next-init c = record { in_range = c.home-next.ensures.in_range; left = rw c.home-next.ensures.domain (zero-add _) }

pub overflow_add-count : goal.overflow_add-count
overflow_add-count c = omega (arith, few_going_off c.args.plan.now c.args.self.now c.args.dev)

pub loop-next-preserved : goal.loop-next-preserved
loop-next-preserved c =
    let below = rw c.in-Some.is at c.loop-next.invariant.in_range in
    let rest = chain c.args.plan.now.domains (length c.args.plan.now.domains) (domain_parent c.args.plan.now.domains c.in-Some.dom) in
    let was = rw (c.in-Some.is, chain_step c.args.plan.now c.in-Some.dom below) at c.loop-next.invariant.left in
    record {
      in_range = c.parent-next.ensures.in_range;
      left = rw c.parent-next.ensures.parent (counted_off c.args.plan.now c.args.self.now c.args.dev c.loop-next.from c.in-Some.dom rest c.loop-next.count _ (sym c.goes_off.ensures ∙ c.if-not-goes_off.false) was);
    }

pub returns-then-not-goes_off : goal.returns-then-not-goes_off
returns-then-not-goes_off c = λ v on says.
    let below = rw c.in-Some.is at c.loop-next.invariant.in_range in
    let rest = chain c.args.plan.now.domains (length c.args.plan.now.domains) (domain_parent c.args.plan.now.domains c.in-Some.dom) in
    let was = rw (c.in-Some.is, chain_step c.args.plan.now c.in-Some.dom below) at c.loop-next.invariant.left in
    counted_last c.args.plan.now c.args.self.now c.args.dev c.loop-next.from c.in-Some.dom rest c.loop-next.count _ (sym c.goes_off.ensures ∙ c.if-not-goes_off.true) was
    ∙ ap length (sym (down-walked c.args.plan.now c.args.self.now c.requires v c.args.dev says on))

pub returns : goal.returns
returns c = λ v on says.
    let was = rw (c.in_default.is, chain-none c.args.plan.now.domains (length c.args.plan.now.domains)) at c.loop-next.invariant.left in
    let all : c.loop-next.count ≡ length (going_off_from c.args.plan.now c.args.self.now c.args.dev None (domains_of c.args.plan.now c.args.dev)) = omega arith in
    all ∙ ap length (sym (down-walked c.args.plan.now c.args.self.now c.requires v c.args.dev says on))
