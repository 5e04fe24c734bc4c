use Rattle.std.proofs.Common.{◌≡◌, ◌++◌, drop, map}
use Rattle.pm_planread.specs.rows.Apart.{number_of}
use Rattle.pm_planread.specs.rows.Names.{pair_name}
use Rattle.pm_planread.proofs.rows.apart.pair_numbers.Given as goal

abbrev pub invariant-loop-row : goal.invariant-loop-row
invariant-loop-row l = l.numbers.items ++ map number_of (map (λ row. pair_name row.consumer row.supplier) (drop l.row-index l.rows)) ≡ map number_of (map (λ row. pair_name row.consumer row.supplier) l.rows)
