use Rattle.std.proofs.Common.{◌∙◌, ap, replicate}
use Rattle.pm_islands.proofs.PartLemmas.{all_of_one}
use Rattle.pm_islands.proofs.parts.blank.Goals as goal

pub part_of-requires-clause-numbers : goal.part_of-requires-clause-numbers
part_of-requires-clause-numbers c =
    (λ node. 1, all_of_one c.args.plan.now c.deref.result.now (c.deref.ensures.value ∙ c.in_ok-numbers.ensures.items_if_clones_equal (λ y same. same) ∙ ap (λ n. replicate n 1) c.len.ensures))
