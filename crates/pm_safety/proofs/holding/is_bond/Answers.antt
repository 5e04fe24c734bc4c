use Rattle.std.proofs.Common.{◌≡◌, ◌∙◌, sym}
use Rattle.pm_model.specs.Views.{is_present}
use Rattle.pm_safety.proofs.LinkLemmas.{both, of_pair}
use Rattle.pm_safety.proofs.holding.is_bond.Goals as goal

pub returns-then-is_runtime : goal.returns-then-is_runtime
returns-then-is_runtime c =
    let there = of_pair c.args.plan.now c.args.parts.now.views.present c.args.link c.requires.in_range c.requires.present_len in
    let said : c.is_present.result ≡ is_present c.args.parts.now.views c.args.link = rw c.link_at-row.ensures.row at c.is_present.ensures ∙ there in
    both _ _ _ (rw c.link_at-row.ensures.row at (sym c.is_runtime.ensures ∙ c.if-is_runtime.true)) said
