use Rattle.std.proofs.Common.{◌≡◌, drop, length}
use Rattle.std.specs.Str.{bytes_eq}
use Rattle.pm_planread.proofs.tree.keys.is_same.Given as goal

abbrev pub invariant-loop-i : goal.invariant-loop-i
invariant-loop-i l = record {
  same_len : length l.a ≡ length l.b;
  so_far : bytes_eq (drop l.i l.a) (drop l.i l.b) ≡ bytes_eq l.a l.b;
}
