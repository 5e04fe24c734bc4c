use Rattle.std.proofs.Common.{◌≡◌, ◌++◌, take}
use Rattle.pm_base.specs.declared.ActorId.TheVariants.{Timer}
use Rattle.pm_explore.proofs.successors.Numbering.{numbered}
use Rattle.pm_explore.proofs.successors.listing.push_timers.Given as goal

abbrev pub invariant-loop-device : goal.invariant-loop-device
invariant-loop-device l = l.out.items ≡ l.initial.out.items ++ take l.device (numbered Timer 0 l.plan.devices)
