use Rattle.std.proofs.Common.{◌≡◌, vec_len}
use Rattle.pm_say.proofs.further.scripts.named_rows.Given as goal

abbrev pub invariant-loop-item : goal.invariant-loop-item
invariant-loop-item l = vec_len l.rows ≡ l.item-index
