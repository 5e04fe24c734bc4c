-- By the stage at which the actor stands.
use Rattle.std.proofs.Common.{◌∙◌, sym}
use Rattle.pm_driver_search.proofs.WitnessLemmas.{only_line}
use Rattle.pm_driver_search.proofs.witness.line_by.Goals as goal

pub returns : goal.returns
returns c = λ last other may by at.
    only_line c.args.plan.now c.args.run.now.state.world c.args.actor c.args.time c.in_ok-stage.stage c.next.result c.in-Write.event c.in-Write.field-1 c.in-Write.field-2 (sym c.stage_at.ensures ∙ c.in_ok-stage.was) c.next.ensures c.in-Write.is last other may by at
