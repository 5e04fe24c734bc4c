use Rattle.std.proofs.Common.{subst, rules}
use Rattle.std.specs.List.Sorted.{IsPermutation}
use Rattle.pm_outcomes.proofs.list.OrderLemmas.{sorted_by_text}
use Rattle.pm_outcomes.proofs.list.listing.listed.Goals as goal

pub returns : goal.returns
returns c = record {
  same = subst (λ l. IsPermutation l c.sort_unstable_by_key.new.self.items) c.in_ok-out.ensures c.sort_unstable_by_key.ensures.permutation;
  in_order = sorted_by_text _ c.sort_unstable_by_key.ensures.sorted (λ a r f called. search rules);
}
