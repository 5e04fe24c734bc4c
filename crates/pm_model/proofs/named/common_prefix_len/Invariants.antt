use Rattle.std.proofs.Common.{◌≡◌, ◌+◌, ◌≤◌, drop, length, nat_eq}
use Rattle.std.specs.List.{common_prefix_len}
use Rattle.pm_model.proofs.named.common_prefix_len.Given as goal

abbrev pub invariant-loop-i : goal.invariant-loop-i
invariant-loop-i l = record {
  in_range : l.i ≤ length l.b;
  so_far : common_prefix_len nat_eq l.a l.b ≡ l.i + common_prefix_len nat_eq (drop l.i l.a) (drop l.i l.b);
}
