-- The most among the words so far.
use Rattle.std.proofs.Common.{◌≡◌, take}
use Rattle.pm_model.specs.NamedList.{common_len}
use Rattle.pm_lineread.proofs.pieces.most_common.Given as goal

abbrev pub invariant-loop-place : goal.invariant-loop-place
invariant-loop-place g l = l.most ≡ common_len l.bytes (take l.place l.table)
