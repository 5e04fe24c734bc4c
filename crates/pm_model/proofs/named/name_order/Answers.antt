use Rattle.std.proofs.Common.{rules}
use Rattle.std.proofs.lemmas.List.{length-map}
use Rattle.pm_model.proofs.NameSearch.{sorted_by_name}
use Rattle.pm_model.proofs.named.name_order.Goals as goal

pub returns : goal.returns
returns g c =
    record {
      places = rw (length-map, ← c.in_ok-order.ensures) c.sort_unstable_by.ensures.permutation;
      sorted = sorted_by_name _ _ c.sort_unstable_by.ensures.sorted (λ a r f called. search rules);
    }
