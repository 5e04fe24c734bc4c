use Rattle.std.proofs.Common.{refl}
use Rattle.pm_planread.proofs.tree.TreeLemmas.{member_keys_view}
use Rattle.pm_planread.proofs.tree.key_faults.unknown_key.Goals as goal

pub loop-key-init : goal.loop-key-init
loop-key-init c = record {
  rest = rw (member_keys_view c.args.table.now.entries) (rw (c.into_iter-key-iterator.ensures.into_iter_gives, c.keys-key-items.ensures.rest) refl);
  count = refl;
}
