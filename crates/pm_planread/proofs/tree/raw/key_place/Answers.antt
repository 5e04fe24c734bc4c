use Rattle.std.proofs.Common.{refl}
use Rattle.pm_planread.proofs.tree.TreeLemmas.{member_keys_view}
use Rattle.pm_planread.proofs.tree.raw.key_place.Goals as goal

pub loop-other-init : goal.loop-other-init
loop-other-init c = record {
  rest = rw (member_keys_view c.args.table.now.entries) (rw (c.into_iter-other-iterator.ensures.into_iter_gives, c.keys-other-items.ensures.rest) refl);
  count = refl;
}
