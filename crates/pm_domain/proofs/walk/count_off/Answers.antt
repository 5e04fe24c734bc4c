use Rattle.std.proofs.Common.{◌≡◌, ◌+◌, ◌∙◌, add-zero, ap, cond, length, sym, arith}
use Rattle.pm_model.specs.PlanRows.{chain, domain_parent}
use Rattle.pm_index.specs.OwnMarks.{bit_at}
use Rattle.pm_domain.proofs.ChainLemmas.{chain_step, counted_more, few_off}
use Rattle.pm_domain.proofs.walk.count_off.Goals.{then-not-is_marked, else-not-is_marked}
use Rattle.pm_domain.proofs.walk.count_off.Goals as goal

pub overflow_add-count : goal.overflow_add-count
overflow_add-count c = omega (arith, few_off c.args.plan.now c.args.on.now.bits c.args.first)

pub loop-next-preserved : goal.loop-next-preserved
loop-next-preserved c =
    let below = rw c.in-Some.is at c.loop-next.invariant.in_range in
    let rest = chain c.args.plan.now.domains (length c.args.plan.now.domains) (domain_parent c.args.plan.now.domains c.in-Some.dom) in
    let was = rw (c.in-Some.is, chain_step c.args.plan.now c.in-Some.dom below) at c.loop-next.invariant.left in
    let more : c.if-not-is_marked.count ≡ c.loop-next.count + cond (bit_at c.args.on.now.bits c.in-Some.dom.0) 0 1 = elim c.if-not-is_marked.branch [
      | then-not-is_marked w ↦ w.count-is ∙ ap (λ b. c.loop-next.count + cond b 0 1) (sym w.if-not-is_marked.true ∙ c.is_marked.ensures)
      | else-not-is_marked w ↦ w.count-is ∙ sym (add-zero c.loop-next.count) ∙ ap (λ b. c.loop-next.count + cond b 0 1) (sym w.if-not-is_marked.false ∙ c.is_marked.ensures)
    ] in
    record {
      in_range = c.parent-next.ensures.in_range;
      left = rw (c.parent-next.ensures.parent, more) (counted_more c.args.on.now.bits c.in-Some.dom.0 rest c.loop-next.count _ was);
    }
