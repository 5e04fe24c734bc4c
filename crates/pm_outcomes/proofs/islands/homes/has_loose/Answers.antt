use Rattle.std.proofs.Common.{◌∙◌, arith, length, nat_le, sym}
use Rattle.pm_outcomes.proofs.islands.Looking.{any_more}
use Rattle.pm_islands.specs.Numbers.{island_in}
use Rattle.pm_model.specs.Islands.{the_device}
use Rattle.pm_outcomes.proofs.islands.homes.has_loose.Goals as goal

pub loop-device-preserved : goal.loop-device-preserved
loop-device-preserved c =
    let numbers = c.args.numbers.now in
    any_more (λ d. nat_le numbers.count (island_in numbers (the_device d))) c.loop-device.device (length c.args.plan.now.devices) _
    (omega (arith, c.loop-device-test.true, c.len-device-end.ensures)) (sym c.is_loose.ensures ∙ c.if-is_loose.false) c.loop-device.invariant
