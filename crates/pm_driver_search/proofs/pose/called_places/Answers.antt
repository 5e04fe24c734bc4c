use Rattle.pm_driver_orders.specs.Drivers.{next_place}
use Rattle.pm_driver_rules.specs.GoingOn.{driver_of}
use Rattle.pm_driver_search.proofs.PoseLemmas.{called_more, called_whole}
use Rattle.pm_driver_search.proofs.pose.called_places.Goals as goal

pub loop-caller-preserved : goal.loop-caller-preserved
loop-caller-preserved c = λ v same.
    called_more (next_place (driver_of c.args.rules.now) c.args.positions.now v) c.args.called.now c.loop-caller.caller c.next_place.result c.loop-caller.out.items c.push.new.self.items c.loop-caller-test.true (c.loop-caller.invariant v same) c.in_ok-push.ensures.items (c.next_place.ensures v same)

pub returns : goal.returns
returns c = λ v same. called_whole (next_place (driver_of c.args.rules.now) c.args.positions.now v) c.args.called.now c.loop-caller.caller c.loop-caller.out.items c.loop-caller-test.false (c.loop-caller.invariant v same)
