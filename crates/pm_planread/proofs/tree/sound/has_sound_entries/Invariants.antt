use Rattle.std.proofs.Common.{◌≡◌, map, string_bytes}
use Rattle.std.specs.List.{list_any}
use Rattle.toml.specs.View.{table_view, view}
use Rattle.pm_planread.specs.tree.Sound.{is_wrong_entry}
use Rattle.pm_planread.specs.tree.Tree.{member_list}
use Rattle.pm_planread.proofs.tree.sound.has_sound_entries.Given as goal

abbrev pub invariant-loop-key : goal.invariant-loop-key
invariant-loop-key l = list_any (is_wrong_entry l.format l.section) (map (λ entry. (string_bytes entry.0, view entry.1)) l.key-iterator) ≡ list_any (is_wrong_entry l.format l.section) (member_list (table_view l.table))
