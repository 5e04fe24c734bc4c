use Rattle.std.proofs.Common.{◌≡◌, ◌∙◌, ap, length, subst, sym, false}
use Rattle.pm_model.specs.PlanRows.{chain}
use Rattle.pm_index.specs.OwnMarks.{Marks}
use Rattle.pm_domain.specs.Domains.{DomainViews, IsMadeFor}
use Rattle.pm_domain.proofs.SwitchLemmas.{length-switched}
use Rattle.pm_domain.proofs.WalkLemmas.{down-switched, down-walked}
use Rattle.pm_domain.proofs.Domains.down.Goals as goal

pub returns-clause-switched : goal.returns-clause-switched
returns-clause-switched c = λ v on says.
    let was : c.self.inside.on.bits ≡ c.args.self.now.on = ap (λ (d : DomainViews). d.on) c.self.view_is in
    let walked = down-walked c.args.plan.now c.args.self.now c.requires v c.args.dev says on in
    let count = c.down_count-count.ensures v on says ∙ ap length walked in
    ap (λ (m : Marks). m.bits) (rw (was, count, c.home.ensures.domain) at c.switch.ensures) ∙ down-switched c.args.plan.now c.args.self.now c.requires v c.args.dev says on

pub returns-clause-made_for : goal.returns-clause-made_for
returns-clause-made_for c =
    let was = subst (IsMadeFor c.args.plan.now) (sym c.self.view_is) c.requires in
    rw c.switch.ensures (record {
      homes_are = was.homes_are;
      awake_len = was.awake_len;
      above_are = was.above_are;
      on_len = length-switched false c.self.inside.on.bits (chain c.args.plan.now.domains c.down_count-count.result c.home.result) ∙ was.on_len;
    })
