use Rattle.pm_model.specs.Derived.{first_held}
use Rattle.pm_link.proofs.FirstLemmas.{least_from_first}
use Rattle.pm_link.proofs.PairLemmas.{held_of_first, sets_pair_of_first}
use Rattle.pm_link.specs.declared.search.Want.TheVariants.{Held}
use Rattle.pm_link.proofs.Links.first_held.Goals as goal

pub returns-clause-first : goal.returns-clause-first
unfolding first_held
returns-clause-first c = λ v held present.
    rw (held, present) (least_from_first _ c.args.plan.now.links c.args.self.now.held c.args.self.now.present c.first.result c.first.ensures.held_len c.first.ensures.present_len c.first.ensures.first)

pub returns-clause-held : goal.returns-clause-held
returns-clause-held c = held_of_first c.args.plan.now.links c.args.dev c.args.self.now.held c.args.self.now.present c.first.result c.first.ensures.first

pub returns-clause-bits_set : goal.returns-clause-bits_set
returns-clause-bits_set c =
    sets_pair_of_first c.args.plan.now Held c.args.dev c.args.self.now.held c.args.self.now.present c.first.result c.first.ensures.first
