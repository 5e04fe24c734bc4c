use Rattle.std.proofs.Common.{refl}
use Rattle.pm_device.specs.Parts.{IsInTime}
use Rattle.pm_driver_search.proofs.ListLemmas.{all_more, all_whole}
use Rattle.pm_driver_search.proofs.pose.are_in_time.Goals as goal

pub loop-device-preserved : goal.loop-device-preserved
loop-device-preserved c = all_more IsInTime c.args.devices.now c.loop-device.device-index _ c.loop-device-test.true c.loop-device.invariant (c.if-not-is_in_time.ensures refl)

pub returns : goal.returns
returns c = λ _. all_whole IsInTime c.args.devices.now c.loop-device.device-index c.loop-device-test.false c.loop-device.invariant
