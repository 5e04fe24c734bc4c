use Rattle.std.proofs.Common.{◌∙◌, ◌++◌, ◌||◌, ap, option_map, refl, subst}
use Rattle.std.specs.Prelude.{is_some}
use Rattle.pm_cmd_ends.specs.Ending.{taking}
use Rattle.pm_cmd_lab.specs.orders.Orders.{outcomes_in, reach_in, snapshots_in}
use Rattle.pm_cmd_lab.specs.orders.OrdersOutcome.{outcome_of_schedules}
use Rattle.pm_cmd_lab.specs.orders.Seen.{IsPlaced, SeenEnds}
use Rattle.pm_cmd_lab.proofs.orders.ApartLemmas.{told_apart}
use Rattle.pm_cmd_lab.proofs.orders.SchedulesLemmas.{text_written}
use Rattle.pm_outcomes.specs.text.Seen.{seen_line}
use Rattle.pm_outcomes.specs.text.Texts.{differs, told}
use Rattle.pm_cmd_lab.proofs.orders.seen.write_seen.Goals as goal

pub returns : goal.returns
returns g c =
    let plan = c.args.plan.now in
    let bounds = c.args.bounds in
    let tells = c.args.tells.now in
    let all = c.in_ok-all.all in
    let f = c.in_ok-all.ensures in
    let islands = f.found.islands in
    let listed = c.as_slice-observations.ensures.value ∙ f.observations in
    let unlisted = option_map (λ t. t.now) c.placed-unlisted.result in
    let text = told plan c.args.differ (reach_in islands) (snapshots_in islands) (outcomes_in islands) in
    let same_found = c.stands_out.ensures ∙ ap (λ observations. differs observations || is_some unlisted) listed in
    let same_told = c.in_ok-text.ensures ∙ told_apart bounds plan c.args.differ all f c.as_slice-observations.result.now c.as_slice-observations.ensures.value in
    let same_text = c.in_ok-push_seen.ensures ∙ (ap (λ t. t ++ seen_line plan all.reach unlisted) same_told ∙ ap (λ r. text ++ seen_line plan r unlisted) f.reach_is) in
    let out = taking g.O.Sink.taken g.O.Sink.faults c.args.out.now c.write_text.new.out in
    text_written (SeenEnds bounds c.args.differ tells plan) c.outcome_of_schedules-told.result (outcome_of_schedules (reach_in islands) (differs (outcomes_in islands) || is_some unlisted)) c.as_slice.result.now
    (text ++ seen_line plan (reach_in islands) unlisted) out c.write_text.result
    (record {
      found = f.found;
      unlisted = unlisted;
      placed = subst (λ observations. IsPlaced observations tells unlisted) listed c.placed-unlisted.ensures;
      is = refl;
    })
    (c.outcome_of_schedules-told.ensures ∙ (ap (λ r. outcome_of_schedules r c.stands_out.result) f.reach_is ∙ ap (outcome_of_schedules (reach_in islands)) same_found))
    (c.as_slice.ensures.value ∙ same_text) c.write_text.ensures
