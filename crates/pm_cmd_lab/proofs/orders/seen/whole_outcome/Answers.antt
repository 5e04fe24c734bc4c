-- The list of an outcome is one.
use Rattle.std.proofs.Common.{◌≡◌, ◌∙◌, List, Some, ap, arith, reverse, subst, sym}
use Rattle.std.specs.Prelude.{option_map}
use Rattle.pm_cmd_lab.proofs.orders.SeenLemmas.{not_whole}
use Rattle.pm_outcomes.specs.kernel_log.Placing.{IsWhole}
use Rattle.pm_outcomes.specs.kernel_log.Runs.{outcome_of}
use Rattle.pm_cmd_lab.proofs.orders.seen.whole_outcome.Goals as goal

pub returns-else-branch-clause-none : goal.returns-else-branch-clause-none
returns-else-branch-clause-none c = λ tells other whole.
    let found = sym (subst (λ o. option_map (λ ts. reverse ts.items) o ≡ outcome_of c.args.plan.now c.args.log.now) c.in-Some.is c.in_ok-tells.ensures) in
    not_whole c.args.plan.now c.args.log.now c.in-Some.tells.items tells found (λ is.
    let is_true = c.in_ok-is_whole.ensures.1 (subst (IsWhole c.args.plan.now) (sym c.as_slice.ensures.value) is) in
    cc (is_true, c.if-branch.false)) other whole
