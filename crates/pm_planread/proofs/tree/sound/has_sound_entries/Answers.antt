use Rattle.std.proofs.Common.{refl}
use Rattle.pm_planread.proofs.tree.TreeLemmas.{member_list_view}
use Rattle.pm_planread.proofs.tree.sound.has_sound_entries.Goals as goal

pub loop-key-init : goal.loop-key-init
loop-key-init c = rw (member_list_view c.args.table.now.entries) (rw (c.into_iter-key-iterator.ensures.into_iter_gives, c.iter-key-items.ensures.rest) refl)
