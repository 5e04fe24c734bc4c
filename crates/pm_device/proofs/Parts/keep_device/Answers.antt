use Rattle.std.proofs.Common.{◌<◌, ap, length, sym, ◌∙◌, arith}
use Rattle.pm_model.specs.Views.{device}
use Rattle.pm_device.specs.Parts.{Counters}
use Rattle.pm_device.proofs.ChildLemmas.{kept_alike}
use Rattle.pm_device.proofs.Parts.keep_device.Goals as goal

pub invariant_of-self : goal.invariant_of-self
invariant_of-self c =
    let i = c.self.inside in
    let parents = ap (λ (x : Counters). length x.shape.parents) c.self.view_is in
    let within : c.args.dev.0 < length i.devices.items = omega (arith, parents, c.self.invariant.devices_len, c.requires.in_range) in
    let was = ap (λ (x : Counters). device x.views c.args.dev) c.self.view_is in
    kept_alike i.children.owners i.devices.items i.requests i.timers i.domains.homes i.domains.awake i.domains.above i.domains.on i.children.bits c.self.invariant c.args.dev.0 c.args.device within c.requires.in_time
    (c.requires.status ∙ sym (ap (λ d. d.status) was)) (c.requires.depth ∙ sym (ap (λ d. d.depth) was))
