use Rattle.std.proofs.Common.{◌∙◌, ap, refl}
use Rattle.pm_cmd_ends.specs.Ending.{taking}
use Rattle.pm_cmd_lab.specs.orders.Orders.{OrdersEnds, outcomes_in, reach_in, snapshots_in}
use Rattle.pm_cmd_lab.specs.orders.OrdersOutcome.{outcome_of_schedules}
use Rattle.pm_cmd_lab.proofs.orders.ApartLemmas.{told_apart}
use Rattle.pm_cmd_lab.proofs.orders.SchedulesLemmas.{text_written}
use Rattle.pm_outcomes.specs.text.Texts.{differs, told}
use Rattle.pm_cmd_lab.proofs.orders.orders.write_orders.Goals as goal

pub returns : goal.returns
returns g c =
    let plan = c.args.plan.now in
    let bounds = c.args.bounds in
    let all = c.in_ok-all.all in
    let f = c.in_ok-all.ensures in
    let islands = f.found.islands in
    let same_choice = c.differs.ensures ∙ ap differs (c.as_slice-observations.ensures.value ∙ f.observations) in
    let out = taking g.O.Sink.taken g.O.Sink.faults c.args.out.now c.write_text.new.out in
    text_written (OrdersEnds bounds c.args.differ plan) c.outcome_of_schedules-told.result (outcome_of_schedules (reach_in islands) (differs (outcomes_in islands))) c.as_slice.result.now
    (told plan c.args.differ (reach_in islands) (snapshots_in islands) (outcomes_in islands)) out c.write_text.result
    (record { found = f.found; is = refl })
    (c.outcome_of_schedules-told.ensures ∙ (ap (λ r. outcome_of_schedules r c.differs.result) f.reach_is ∙ ap (outcome_of_schedules (reach_in islands)) same_choice))
    (c.as_slice.ensures.value ∙ (c.in_ok-text.ensures ∙ told_apart bounds plan c.args.differ all f c.as_slice-observations.result.now c.as_slice-observations.ensures.value)) c.write_text.ensures
