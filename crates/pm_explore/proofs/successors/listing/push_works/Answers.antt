use Rattle.pm_base.specs.declared.ActorId.TheVariants.{Work}
use Rattle.pm_explore.proofs.successors.Numbering.{ends, goes_on}
use Rattle.pm_explore.proofs.successors.listing.push_works.Goals as goal

pub loop-device-preserved : goal.loop-device-preserved
loop-device-preserved c =
    goes_on Work c.args.plan.now.devices c.loop-device.device c.len-device-end.result c.args.out.now.items c.loop-device.out.items c.push.new.self.items
    c.len-device-end.ensures c.loop-device-test.true c.loop-device.invariant c.in_ok-push.ensures.items

pub returns : goal.returns
returns c =
    ends Work c.args.plan.now.devices c.loop-device.device c.len-device-end.result c.args.out.now.items c.loop-device.out.items
    c.len-device-end.ensures c.loop-device-test.false c.loop-device.auto.device-end c.loop-device.invariant
