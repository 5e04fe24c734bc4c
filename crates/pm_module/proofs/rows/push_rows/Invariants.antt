use Rattle.std.proofs.Common.{◌≡◌, ◌++◌, drop}
use Rattle.std.specs.List.{flat_map}
use Rattle.pm_module.proofs.rows.push_rows.Given as goal

abbrev pub invariant-loop-row : goal.invariant-loop-row
invariant-loop-row g l = l.text.items ++ flat_map (g.R.Row.text_of l.plan) (drop l.row-index l.rows) ≡ l.fn.text.items ++ flat_map (g.R.Row.text_of l.plan) l.rows
