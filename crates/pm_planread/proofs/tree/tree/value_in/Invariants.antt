use Rattle.std.proofs.Common.{◌≡◌, drop}
use Rattle.toml.specs.Data.{get_member}
use Rattle.pm_planread.specs.tree.Tree.{entries_view}
use Rattle.pm_planread.proofs.tree.tree.value_in.Given as goal

abbrev pub invariant-loop-entry : goal.invariant-loop-entry
invariant-loop-entry l = get_member l.key (entries_view (drop l.entry-index l.entries)) ≡ get_member l.key (entries_view l.entries)
