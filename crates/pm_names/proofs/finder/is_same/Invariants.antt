-- What was passed is the same, so the texts are where the rests are.
use Rattle.std.proofs.Common.{◌≡◌, drop, length}
use Rattle.pm_names.proofs.finder.is_same.Given as goal

abbrev pub invariant-loop-i : goal.invariant-loop-i
invariant-loop-i l = record {
  same_len : length l.a ≡ length l.b;
  so_far : drop l.i l.a ≡ drop l.i l.b → l.a ≡ l.b;
}
