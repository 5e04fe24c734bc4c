use Rattle.std.proofs.Common.{◌≡◌, ap, subst, ◌∙◌}
use Rattle.pm_model.specs.Derived.{children}
use Rattle.pm_device.proofs.ChildLemmas.{children_is}
use Rattle.pm_device.proofs.Parts.children.Goals as goal

pub returns : goal.returns
returns c = λ plan made.
    let i = c.self.inside in
    let parents = ap (λ s. s.shape.parents) c.self.view_is ∙ made.parents_are in
    subst (λ s. c.count.result ≡ children plan s.views c.args.dev) c.self.view_is
    (c.count.ensures ∙ children_is plan _ i.children.owners i.children.bits c.args.dev parents c.self.invariant.counting_is)
