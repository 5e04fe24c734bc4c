-- The rows are those of a plan.
use Rattle.std.proofs.Common.{refl, ◌∙◌}
use Rattle.pm_make.proofs.Law.{law_of}
use Rattle.pm_make.proofs.make_plan.Goals as goal

pub invariant_of-result : goal.invariant_of-result
invariant_of-result c = record {
  law = law_of c.args.devices _ _ _ 200000 1 c.in_ok-domains.domains c.in_ok-rows.rows c.new-links.result c.in_ok-callers.callers
      c.requires.least c.requires.most refl refl (c.in_ok-domains.ensures ∙ c.in_ok-domain_rows.ensures.rows)
      (c.in_ok-rows.ensures ∙ c.in_ok-device_rows.ensures.item) (c.new-links.ensures ∙ c.in_ok-link_rows.ensures.item)
      (c.in_ok-callers.ensures ∙ c.in_ok-caller_rows.ensures.item);
}
