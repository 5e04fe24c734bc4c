use Rattle.std.proofs.Common.{◌≡◌, ◌∙◌, List, ap, arith, length}
use Rattle.pm_model.specs.declared.views.Device.{Device}
use Rattle.pm_device.specs.Parts.{Counters}
use Rattle.pm_device.proofs.FillLemmas.{filled_all}
use Rattle.pm_device.proofs.Parts.set_devices.Goals as goal

pub bounds-devices-device : goal.bounds-devices-device
bounds-devices-device c =
    let parents = ap (λ (x : Counters). length x.shape.parents) c.self.view_is in
    let devices = ap (λ (x : Counters). length x.views.devices) c.self.view_is in
    omega (arith, c.loop-device-test.true, c.len-device-end.ensures, c.requires.made_for.devices_len, c.requires.as_many, parents, devices, c.self.invariant.devices_len)

pub returns : goal.returns
returns c =
    let parents = ap (λ (x : Counters). length x.shape.parents) c.self.view_is in
    let devices = ap (λ (x : Counters). length x.views.devices) c.self.view_is in
    let end : c.loop-device.device ≡ length c.args.devices.now =
    omega (arith, c.loop-device-test.false, c.loop-device.auto.device-end, c.len-device-end.ensures, c.requires.made_for.devices_len, c.requires.as_many, parents, devices, c.self.invariant.devices_len) in
    let filled : List Device → Counters = λ l. record c.args.self.now { views = record c.args.self.now.views { devices = l } } in
    c.loop-device.invariant.rest ∙ ap filled (filled_all c.loop-device.self.views.devices c.args.devices.now c.loop-device.device c.loop-device.invariant.long end c.loop-device.invariant.so_far)
