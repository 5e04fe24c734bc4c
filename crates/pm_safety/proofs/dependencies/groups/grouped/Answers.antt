use Rattle.std.proofs.Common.{refl}
use Rattle.pm_safety.proofs.dependencies.GroupLemmas.{more}
use Rattle.pm_safety.proofs.dependencies.groups.grouped.Goals as goal

pub loop-place-preserved : goal.loop-place-preserved
loop-place-preserved c = more c.args.owners.now c.args.count c.loop-place.place _ c.loop-place.groups.items c.put.new.groups.items refl c.loop-place.invariant c.in_ok-put.ensures
