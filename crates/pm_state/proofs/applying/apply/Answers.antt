-- The counters can take the change, and the event once the change is made.
use Rattle.std.proofs.Common.{◌≡◌, length, true, sym, subst}
use Rattle.std.proofs.lemmas.Bool.{and_parts}
use Rattle.pm_model.specs.CanTake.{can_change, can_happen}
use Rattle.pm_state.proofs.CalmLemmas.{can_happen_after}
use Rattle.pm_state.proofs.applying.apply.Goals as goal

pub change-requires-clause-fits : goal.change-requires-clause-fits
change-requires-clause-fits c =
    let plan = c.args.plan.now in
    let v = c.args.parts.now.views in
    (and_parts (can_change (length plan.devices) v c.args.named.now) (can_happen plan v c.args.event.now) c.requires.fits).0

pub happen-requires-clause-fits : goal.happen-requires-clause-fits
happen-requires-clause-fits c =
    let plan = c.args.plan.now in
    let v = c.args.parts.now.views in
    let event = c.args.event.now in
    subst (λ parts. can_happen plan parts.views event ≡ true) (sym c.change.ensures)
    (can_happen_after plan v c.args.named.now c.args.time event (and_parts (can_change (length plan.devices) v c.args.named.now) (can_happen plan v event) c.requires.fits).1)
