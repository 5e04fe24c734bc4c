use Rattle.std.proofs.Common.{◌≡◌, ℕ, subst, arith}
use Rattle.pm_link.specs.LinkOrder.{AreFirstStarts}
use Rattle.pm_link.proofs.OrderLemmas.{all_starts}
use Rattle.pm_link.proofs.order.starts.Goals as goal

pub returns : goal.returns
returns c =
    let all : c.loop-device.device ≡ c.args.devices = omega (arith, c.loop-device.auto.device-end, c.loop-device-test.false) in
    all_starts c.args.rows.now c.args.order.now c.loop-device.starts.items c.args.devices c.requires.ordered c.requires.among
    (subst (λ (n : ℕ). AreFirstStarts c.args.rows.now c.args.order.now n c.loop-device.starts.items) all c.loop-device.invariant)
