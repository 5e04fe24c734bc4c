use Rattle.pm_device.proofs.ChildLemmas.{kept_with_device}
use Rattle.pm_device.proofs.Parts.set_device.Goals as goal

pub invariant_of-self : goal.invariant_of-self
invariant_of-self c =
    let i = c.self.inside in
    rw (c.set.ensures, c.set_awake.ensures, c.counts.ensures, c.is_quiet.ensures)
    (kept_with_device i.children.owners i.devices.items i.requests i.timers i.domains.homes i.domains.awake i.domains.above i.domains.on i.children.bits c.self.invariant c.args.dev.0 c.args.device c.requires.in_time)
