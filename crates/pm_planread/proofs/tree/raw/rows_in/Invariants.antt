use Rattle.std.proofs.Common.{◌≡◌, ◌++◌, drop, map}
use Rattle.toml.specs.View.{view}
use Rattle.pm_planread.specs.tree.Raw.{rows_in}
use Rattle.pm_planread.proofs.tree.raw.rows_in.Given as goal

abbrev pub invariant-loop-value : goal.invariant-loop-value
invariant-loop-value g l = l.rows.items ++ rows_in g.T.Row.row_of (map view (drop l.value-index l.values)) ≡ rows_in g.T.Row.row_of (map view l.values)
