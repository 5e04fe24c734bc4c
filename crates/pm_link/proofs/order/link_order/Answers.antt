use Rattle.std.proofs.Common.{rules}
use Rattle.pm_link.proofs.OrderLemmas.{sorted_by_pair}
use Rattle.pm_link.proofs.order.link_order.Goals as goal

pub returns : goal.returns
returns c =
    record {
      few = c.requires;
      places = rw (← c.in_ok-order.ensures) c.sort_unstable_by.ensures.permutation;
      sorted = sorted_by_pair c.args.rows.now _ c.sort_unstable_by.ensures.sorted (λ a r f called. search rules);
    }
