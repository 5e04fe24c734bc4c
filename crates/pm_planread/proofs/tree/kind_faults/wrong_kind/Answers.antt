use Rattle.std.proofs.Common.{refl}
use Rattle.pm_planread.proofs.tree.TreeLemmas.{member_list_view}
use Rattle.pm_planread.proofs.tree.kind_faults.wrong_kind.Goals as goal

pub loop-key-init : goal.loop-key-init
loop-key-init c = record {
  rest = rw (member_list_view c.args.table.now.entries) (rw (c.into_iter-key-iterator.ensures.into_iter_gives, c.iter-key-items.ensures.rest) refl);
  count = refl;
}
