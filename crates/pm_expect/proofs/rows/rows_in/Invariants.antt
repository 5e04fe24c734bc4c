use Rattle.std.proofs.Common.{◌≡◌, All, drop, map}
use Rattle.toml.specs.View.{view}
use Rattle.pm_expect.specs.Expected.{rows_in}
use Rattle.pm_expect.proofs.RowLemmas.{behind}
use Rattle.pm_expect.proofs.rows.rows_in.Given as goal

-- what is left is read behind the rows so far
abbrev pub invariant-loop-number : goal.invariant-loop-number
invariant-loop-number g l = record {
  rest : rows_in (g.T.Row.row_of l.plan) l.section 0 (map view l.items) ≡ behind l.rows.items (rows_in (g.T.Row.row_of l.plan) l.section l.number (map view (drop l.number l.items)));
  over : All (g.T.Row.IsOver l.plan) l.rows.items;
}
