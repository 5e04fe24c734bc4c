use Rattle.std.proofs.Common.{◌++◌, ◌∙◌, ℕ, List, All, ap, length, refl, subst}
use Rattle.pm_expect_report.specs.orders.Judged.{HasLine}
use Rattle.pm_cmd_ends.specs.Ending.{taking}
use Rattle.pm_expect_report.specs.orders.Texts.{has_broken, judged_lines}
use Rattle.pm_cmd_lab.specs.orders.Expect.{ExpectEnds}
use Rattle.pm_cmd_lab.specs.orders.Orders.{reach}
use Rattle.pm_cmd_lab.specs.orders.OrdersOutcome.{outcome_of_schedules}
use Rattle.pm_cmd_lab.proofs.orders.ExpectLemmas.{all_decided, text_is}
use Rattle.pm_cmd_lab.proofs.orders.SchedulesLemmas.{reach_is, text_written}
use Rattle.pm_outcomes.specs.text.Reached.{reach_of}
use Rattle.pm_outcomes.specs.text.Texts.{told}
use Rattle.pm_cmd_lab.proofs.orders.expect.write_judged.Goals as goal

pub returns : goal.returns
returns g c =
    let plan = c.args.plan.now in
    let bounds = c.args.bounds in
    let expect = c.args.expect.now in
    let all = c.in_ok-all.all in
    let f = c.in_ok-all.ensures.found in
    let judged = c.in_ok-judged.judged.items in
    let are = c.in_ok-judged.ensures in
    let same_reach = c.reach_of-reach.ensures ∙ (ap (reach_of all.found.ended) (c.len.ensures ∙ all.found.rounds.ok.0) ∙ reach_is bounds plan all f) in
    let same_broken = c.has_broken.ensures ∙ ap has_broken c.as_slice-3.ensures.value in
    let same_text = c.in_ok-text.ensures ∙ text_is bounds plan c.args.differ all f c.as_bytes.result.now expect c.as_slice-2.result.now judged c.as_bytes.ensures.value c.as_slice-2.ensures.value in
    let out = taking g.O.Sink.taken g.O.Sink.faults c.args.out.now c.write_text.new.out in
    text_written (ExpectEnds bounds c.args.differ expect plan c.args.read.now.text.items c.args.read.now.expected) c.outcome_of_schedules-told.result (outcome_of_schedules (reach f.found) (has_broken judged)) c.as_slice-4.result.now
    (judged_lines plan expect (reach f.found) (length f.found.rounds) judged ++ told plan c.args.differ (reach f.found) (length f.found.snapshots) f.found.observations) out c.write_text.result
    (record {
      found = f.found;
      judged = judged;
      each = are.each;
      decided = all_decided bounds plan all f c.firsts_decide.ensures.rounds c.firsts_decide.ensures.all c.firsts_decide.ensures.sound judged are.firsts;
      lines = subst (λ (text : List ℕ). All (HasLine text) judged) c.as_slice.ensures.value are.lines;
      is = refl;
    })
    (c.outcome_of_schedules-told.ensures ∙ (ap (λ r. outcome_of_schedules r c.has_broken.result) same_reach ∙ ap (outcome_of_schedules (reach f.found)) same_broken))
    (c.as_slice-4.ensures.value ∙ same_text) c.write_text.ensures
