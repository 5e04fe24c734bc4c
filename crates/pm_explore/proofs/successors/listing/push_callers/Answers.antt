use Rattle.pm_base.specs.declared.ActorId.TheVariants.{Caller}
use Rattle.pm_explore.proofs.successors.Numbering.{ends, goes_on}
use Rattle.pm_explore.proofs.successors.listing.push_callers.Goals as goal

pub loop-caller-preserved : goal.loop-caller-preserved
loop-caller-preserved c =
    goes_on Caller c.args.plan.now.callers c.loop-caller.caller c.len-caller-end.result c.args.out.now.items c.loop-caller.out.items c.push.new.self.items
    c.len-caller-end.ensures c.loop-caller-test.true c.loop-caller.invariant c.in_ok-push.ensures.items

pub returns : goal.returns
returns c =
    ends Caller c.args.plan.now.callers c.loop-caller.caller c.len-caller-end.result c.args.out.now.items c.loop-caller.out.items
    c.len-caller-end.ensures c.loop-caller-test.false c.loop-caller.auto.caller-end c.loop-caller.invariant
