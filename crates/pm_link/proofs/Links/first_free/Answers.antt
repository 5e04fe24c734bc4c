use Rattle.pm_model.specs.Derived.{first_free}
use Rattle.pm_link.proofs.FirstLemmas.{least_from_first}
use Rattle.pm_link.proofs.PairLemmas.{free_of_first, sets_pair_of_first}
use Rattle.pm_link.specs.declared.search.Want.TheVariants.{Free}
use Rattle.pm_link.proofs.Links.first_free.Goals as goal

pub returns-clause-first : goal.returns-clause-first
unfolding first_free
returns-clause-first c = λ v held present.
    rw (held, present) (least_from_first _ c.args.plan.now.links c.args.self.now.held c.args.self.now.present c.first.result c.first.ensures.held_len c.first.ensures.present_len c.first.ensures.first)

pub returns-clause-free : goal.returns-clause-free
returns-clause-free c = free_of_first c.args.plan.now.links c.args.dev c.args.self.now.held c.args.self.now.present c.first.result c.first.ensures.first

pub returns-clause-bits_set : goal.returns-clause-bits_set
returns-clause-bits_set c =
    sets_pair_of_first c.args.plan.now Free c.args.dev c.args.self.now.held c.args.self.now.present c.first.result c.first.ensures.first
