use Rattle.std.proofs.Common.{◌≡◌, map, string_bytes, length}
use Rattle.toml.specs.View.{table_view}
use Rattle.pm_planread.specs.tree.KeyFault.{is_unknown_key}
use Rattle.pm_planread.specs.tree.Places.{first_place}
use Rattle.pm_planread.specs.tree.Tree.{member_keys}
use Rattle.pm_planread.proofs.tree.key_faults.unknown_key.Given as goal

abbrev pub invariant-loop-key : goal.invariant-loop-key
invariant-loop-key l = record {
  rest : first_place (is_unknown_key l.format l.section) l.at (map string_bytes l.key-iterator) ≡ first_place (is_unknown_key l.format l.section) 0 (member_keys (table_view l.table));
  count : l.at ≡ length l.yielded;
}
