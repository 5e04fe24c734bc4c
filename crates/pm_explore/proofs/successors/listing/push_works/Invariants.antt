use Rattle.std.proofs.Common.{◌≡◌, ◌++◌, take}
use Rattle.pm_base.specs.declared.ActorId.TheVariants.{Work}
use Rattle.pm_explore.proofs.successors.Numbering.{numbered}
use Rattle.pm_explore.proofs.successors.listing.push_works.Given as goal

abbrev pub invariant-loop-device : goal.invariant-loop-device
invariant-loop-device l = l.out.items ≡ l.initial.out.items ++ take l.device (numbered Work 0 l.plan.devices)
