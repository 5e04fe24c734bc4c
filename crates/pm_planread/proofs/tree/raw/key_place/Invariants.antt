use Rattle.std.proofs.Common.{◌≡◌, map, string_bytes, length}
use Rattle.std.specs.Str.{bytes_eq}
use Rattle.toml.specs.View.{table_view}
use Rattle.pm_planread.specs.tree.Places.{first_place}
use Rattle.pm_planread.specs.tree.Tree.{member_keys}
use Rattle.pm_planread.proofs.tree.raw.key_place.Given as goal

abbrev pub invariant-loop-other : goal.invariant-loop-other
invariant-loop-other l = record {
  rest : first_place (λ k. bytes_eq k l.key) l.at (map string_bytes l.other-iterator) ≡ first_place (λ k. bytes_eq k l.key) 0 (member_keys (table_view l.table));
  count : l.at ≡ length l.yielded;
}
