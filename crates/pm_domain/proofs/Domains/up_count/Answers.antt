use Rattle.std.proofs.Common.{◌≡◌, ◌∙◌, ap, length}
use Rattle.pm_domain.specs.Domains.{DomainViews}
use Rattle.pm_domain.proofs.SwitchLemmas.{up-those_off}
use Rattle.pm_domain.proofs.Domains.up_count.Goals as goal

pub returns : goal.returns
returns c = λ v on.
    let was : c.self.inside.on.bits ≡ c.args.self.now.on = ap (λ (d : DomainViews). d.on) c.self.view_is in
    rw (was, c.home.ensures.domain) at c.count_off.ensures ∙ ap length (up-those_off c.args.plan.now v c.args.dev c.args.self.now.on on)
