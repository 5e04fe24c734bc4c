use Rattle.pm_device.proofs.PlanLemmas.{supplier_at_in_range}
use Rattle.pm_device.proofs.Parts.give_link.Goals as goal

pub give_count-requires-clause-in_range : goal.give_count-requires-clause-in_range
give_count-requires-clause-in_range c =
    rw (c.as_slice.ensures, c.requires.made_for.devices_len) (supplier_at_in_range c.args.plan.now c.args.link c.requires.in_plan)
