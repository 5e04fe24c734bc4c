use Rattle.std.proofs.Common.{◌≡◌}
use Rattle.toml.specs.Data.{get_member}
use Rattle.toml.specs.View.{members_view, table_view}
use Rattle.pm_planread.proofs.tree.tree.member.Given as goal

abbrev pub invariant-loop-name : goal.invariant-loop-name
invariant-loop-name l = get_member l.key (members_view l.name-iterator) ≡ get_member l.key (table_view l.table)
