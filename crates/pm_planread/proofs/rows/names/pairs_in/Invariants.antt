use Rattle.std.proofs.Common.{◌≡◌, ◌++◌, drop, map, vec_len}
use Rattle.pm_planread.specs.rows.Names.{pair_name}
use Rattle.pm_planread.proofs.rows.names.pairs_in.Given as goal

abbrev pub invariant-loop-row : goal.invariant-loop-row
invariant-loop-row l = record {
  names : map (λ pair. pair.name) l.pairs.items ++ map (λ row. pair_name row.consumer row.supplier) (drop l.row-index l.rows) ≡ map (λ row. pair_name row.consumer row.supplier) l.rows;
  len : vec_len l.pairs ≡ l.row-index;
}
