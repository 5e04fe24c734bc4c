use Rattle.std.proofs.Common.{◌≡◌, ◌++◌, take}
use Rattle.pm_base.specs.declared.ActorId.TheVariants.{Caller}
use Rattle.pm_explore.proofs.successors.Numbering.{numbered}
use Rattle.pm_explore.proofs.successors.listing.push_callers.Given as goal

abbrev pub invariant-loop-caller : goal.invariant-loop-caller
invariant-loop-caller l = l.out.items ≡ l.initial.out.items ++ take l.caller (numbered Caller 0 l.plan.callers)
