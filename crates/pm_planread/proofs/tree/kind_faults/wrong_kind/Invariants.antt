use Rattle.std.proofs.Common.{◌≡◌, map, string_bytes, length}
use Rattle.toml.specs.View.{table_view, view}
use Rattle.pm_planread.specs.tree.KindFault.{is_misfit}
use Rattle.pm_planread.specs.tree.Places.{first_place}
use Rattle.pm_planread.specs.tree.Tree.{member_list}
use Rattle.pm_planread.proofs.tree.kind_faults.wrong_kind.Given as goal

abbrev pub invariant-loop-key : goal.invariant-loop-key
invariant-loop-key l = record {
  rest : first_place (is_misfit l.format l.section) l.at (map (λ entry. (string_bytes entry.0, view entry.1)) l.key-iterator) ≡ first_place (is_misfit l.format l.section) 0 (member_list (table_view l.table));
  count : l.at ≡ length l.yielded;
}
