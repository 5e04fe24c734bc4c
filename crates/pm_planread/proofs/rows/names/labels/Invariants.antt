use Rattle.std.proofs.Common.{◌≡◌, ◌++◌, drop, map, vec_len}
use Rattle.pm_planread.specs.rows.Names.{names_in}
use Rattle.pm_planread.proofs.rows.names.labels.Given as goal

abbrev pub invariant-loop-row : goal.invariant-loop-row
invariant-loop-row g l = record {
  names : names_in l.labels.items ++ map g.T.Named.name_of (drop l.row-index l.rows) ≡ map g.T.Named.name_of l.rows;
  len : vec_len l.labels ≡ l.row-index;
}
