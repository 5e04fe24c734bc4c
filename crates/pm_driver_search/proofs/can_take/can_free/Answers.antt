use Rattle.std.proofs.Common.{sym, ◌∙◌}
use Rattle.pm_driver_search.proofs.TakeLemmas.{free_by}
use Rattle.pm_driver_search.proofs.can_take.can_free.Goals as goal

pub returns-then-devices : goal.returns-then-devices
returns-then-devices c = λ is v devices held. free_by c.args.plan.now v c.as_slice.result.now c.args.held.now c.args.devices.now c.args.dev c.as_slice.ensures devices held (sym c.have_counts.ensures ∙ is)
