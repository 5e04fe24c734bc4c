use Rattle.std.proofs.Common.{◌≡◌, ◌≤◌, map, vec_len}
use Rattle.std.specs.List.{range_with_len}
use Rattle.pm_make.specs.Generator.{domain_row}
use Rattle.pm_make.proofs.rows.domain_rows.Given as goal

abbrev pub invariant-loop-place : goal.invariant-loop-place
invariant-loop-place l = record {
  rows : l.rows.items ≡ map domain_row (range_with_len 0 l.place);
  few : vec_len l.rows ≤ l.place;
}
