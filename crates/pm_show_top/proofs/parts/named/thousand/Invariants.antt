use Rattle.std.proofs.Common.{◌≡◌, vec_len}
use Rattle.pm_show_top.proofs.parts.named.thousand.Given as goal

-- a row for each number so far
abbrev pub invariant-loop-k : goal.invariant-loop-k
invariant-loop-k l = vec_len l.rows ≡ l.k
