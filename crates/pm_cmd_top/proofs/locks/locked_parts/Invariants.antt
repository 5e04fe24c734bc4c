use Rattle.std.proofs.Common.{◌≡◌}
use Rattle.std.specs.Prelude.{vec_len}
use Rattle.pm_cmd_top.proofs.locks.locked_parts.Given as goal

abbrev pub invariant-loop-island : goal.invariant-loop-island
invariant-loop-island l = vec_len l.locks ≡ l.island
