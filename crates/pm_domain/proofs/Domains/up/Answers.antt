use Rattle.std.proofs.Common.{◌≡◌, ◌∙◌, ap, subst, sym, true}
use Rattle.pm_model.specs.PlanRows.{chain}
use Rattle.pm_index.specs.OwnMarks.{Marks}
use Rattle.pm_domain.specs.Domains.{DomainViews, IsMadeFor}
use Rattle.pm_domain.proofs.SwitchLemmas.{length-switched, up-switched}
use Rattle.pm_domain.proofs.Domains.up.Goals as goal

pub returns-clause-switched : goal.returns-clause-switched
returns-clause-switched c = λ v on.
    let was : c.self.inside.on.bits ≡ c.args.self.now.on = ap (λ (d : DomainViews). d.on) c.self.view_is in
    ap (λ (m : Marks). m.bits) (rw (was, c.len.ensures, c.home.ensures.domain) at c.switch.ensures) ∙ up-switched c.args.plan.now v c.args.dev c.args.self.now.on on

pub returns-clause-made_for : goal.returns-clause-made_for
returns-clause-made_for c =
    let was = subst (IsMadeFor c.args.plan.now) (sym c.self.view_is) c.requires in
    rw c.switch.ensures (record {
      homes_are = was.homes_are;
      awake_len = was.awake_len;
      above_are = was.above_are;
      on_len = length-switched true c.self.inside.on.bits (chain c.args.plan.now.domains c.len.result c.home.result) ∙ was.on_len;
    })
