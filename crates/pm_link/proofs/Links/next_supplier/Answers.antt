use Rattle.pm_model.specs.Derived.{next_supplier}
use Rattle.pm_link.proofs.FirstLemmas.{least_from_first}
use Rattle.pm_link.proofs.Links.next_supplier.Goals as goal

pub returns-clause-first : goal.returns-clause-first
unfolding next_supplier
returns-clause-first c = λ v held present.
    rw (held, present) (least_from_first _ c.args.plan.now.links c.args.self.now.held c.args.self.now.present c.first.result c.first.ensures.held_len c.first.ensures.present_len c.first.ensures.first)
