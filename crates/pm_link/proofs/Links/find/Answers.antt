use Rattle.std.proofs.Common.{refl}
use Rattle.pm_link.proofs.FirstLemmas.{position_from_first}
use Rattle.pm_link.proofs.PairLemmas.{at_pair_is, is_pair_in_is, may_be_absent_is}
use Rattle.pm_link.proofs.Links.find.Goals as goal

pub returns-clause-found : goal.returns-clause-found
returns-clause-found c =
    position_from_first c.args.consumer c.args.supplier c.args.plan.now.links _ c.first.result (λ k. refl) c.first.ensures.first

pub returns-clause-bits_set : goal.returns-clause-bits_set
returns-clause-bits_set c =
    at_pair_is c.args.plan.now c.args.consumer c.args.supplier _ (λ k. refl) c.first.result c.first.ensures.first

pub returns-clause-bits_read : goal.returns-clause-bits_read
returns-clause-bits_read c =
    is_pair_in_is c.args.plan.now c.args.consumer c.args.supplier _ (λ k. refl) c.first.result c.first.ensures.first

pub returns-clause-later : goal.returns-clause-later
returns-clause-later c =
    may_be_absent_is c.args.plan.now c.args.consumer c.args.supplier _ (λ k. refl) c.first.result c.first.ensures.first
