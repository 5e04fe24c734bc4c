use Rattle.std.proofs.Common.{◌∙◌, ap, length, nat_eq, sym}
use Rattle.pm_islands.proofs.PartLemmas.{length_scripts}
use Rattle.pm_desk.proofs.desk.desk_of.Goals as goal

pub invariant_of-result : goal.invariant_of-result
invariant_of-result c =
    c.in_ok-given.ensures.len ∙ c.len.ensures ∙ sym (ap length c.in_ok-blank.ensures.callers ∙ length_scripts (λ k. nat_eq 1 0) c.args.plan.now.callers)
