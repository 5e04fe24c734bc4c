use Rattle.std.proofs.Common.{rules}
use Rattle.pm_model.proofs.NameSearch.{split_by_name}
use Rattle.pm_model.proofs.named.count_before.Goals as goal

pub returns : goal.returns
returns g c =
    split_by_name _ _ c.requires c.args.name.now _ c.partition_point.ensures.bound c.partition_point.ensures.partitioned (λ a r f called. search rules)
