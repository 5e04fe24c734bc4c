use Rattle.std.proofs.Common.{◌∙◌, ap, drop, take}
use Rattle.pm_islands.proofs.Numbered.{are_islands}
use Rattle.pm_islands.proofs.numbers.numbered.Goals as goal

pub returns : goal.returns
returns c =
    are_islands c.args.plan.now c.args.labels.now c.split_at.result.0.now c.split_at.result.1.now c.split_at-2.result.0.now c.split_at-2.result.1.now _ c.requires.shared
    (c.split_at.ensures.front ∙ ap (λ n. take n c.args.labels.now) c.len.ensures)
    (c.split_at.ensures.back ∙ ap (λ n. drop n c.args.labels.now) c.len.ensures)
    (c.split_at-2.ensures.front ∙ ap (λ n. take n c.split_at.result.1.now) c.len-2.ensures)
    (c.split_at-2.ensures.back ∙ ap (λ n. drop n c.split_at.result.1.now) c.len-2.ensures)
    c.rank.ensures c.in_ok-numbers_of.ensures c.in_ok-ranks_of.ensures c.in_ok-numbers_of-2.ensures
