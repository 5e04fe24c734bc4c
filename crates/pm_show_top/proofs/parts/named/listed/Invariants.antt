use Rattle.std.proofs.Common.{◌≡◌, vec_len}
use Rattle.pm_show_top.proofs.parts.named.listed.Given as goal

-- a row for each name so far
abbrev pub invariant-loop-name : goal.invariant-loop-name
invariant-loop-name l = vec_len l.rows ≡ l.name-index
