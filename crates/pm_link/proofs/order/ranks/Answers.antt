use Rattle.std.proofs.Common.{◌∙◌, get_or, arith}
use Rattle.std.proofs.lemmas.List.{length-set}
use Rattle.pm_link.proofs.OrderLemmas.{below_rows, length_order, rank_more}
use Rattle.pm_link.proofs.order.ranks.Goals as goal

pub index_mut-requires : goal.index_mut-requires
index_mut-requires c =
    let ranks = c.loop-rank.ranks in
    omega (arith, below_rows c.args.rows.now c.args.order.now c.requires c.loop-rank.rank 0 c.loop-rank-test.true, length_order c.args.rows.now c.args.order.now c.requires, c.loop-rank.invariant.count_is, ranks.ok.0)

pub loop-rank-preserved : goal.loop-rank-preserved
loop-rank-preserved c =
    let ranks = c.loop-rank.ranks.items in
    let rank = c.loop-rank.rank in
    record {
      count_is = length-set ranks (get_or c.args.order.now rank 0) rank ∙ c.loop-rank.invariant.count_is;
      each = rank_more c.args.rows.now c.args.order.now ranks rank c.requires c.loop-rank.invariant.count_is c.loop-rank-test.true c.loop-rank.invariant.each;
    }
