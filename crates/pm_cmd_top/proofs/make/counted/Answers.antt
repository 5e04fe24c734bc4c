use Rattle.std.proofs.Common.{◌∙◌, false, ap, arith, take, sym}
use Rattle.std.proofs.lemmas.Option.{slice_get_within}
use Rattle.pm_model.specs.Serial.{serial}
use Rattle.pm_report.specs.Report.{summary}
use Rattle.pm_cmd_top.proofs.SerialLemmas.{all_came, there}
use Rattle.pm_cmd_top.proofs.SummaryLemmas.{counts_all, counts_more, few_more, few_serial}
use Rattle.pm_cmd_top.proofs.make.counted.Goals as goal

pub loop-line-init : goal.loop-line-init
loop-line-init c =
    let plan = c.args.plan.now in
    let start = c.requires.start in
    record {
      counts = c.summary-sum.ensures ∙ ap (λ n. summary plan (take n (serial plan)) false) (sym start);
      plan = c.requires.plan;
      within = omega (arith, start);
    }

pub one_more-sum-requires-clause-some : goal.one_more-sum-requires-clause-some
one_more-sum-requires-clause-some c = record { plan = c.args.plan.now; lines = take c.loop-line.lines.came (serial c.args.plan.now); finished = false; is = c.loop-line.invariant.counts }

pub one_more-sum-requires-clause-few : goal.one_more-sum-requires-clause-few
one_more-sum-requires-clause-few c =
    let plan = c.args.plan.now in
    let here = there plan c.loop-line.lines.plan c.loop-line.lines.came c.in-Some.line c.loop-line.invariant.plan c.in-Some.ensures.line in
    few_more plan (serial plan) c.loop-line.lines.came c.in-Some.line c.loop-line.sum here c.loop-line.invariant.counts (few_serial plan (c.serial_lines_are_lawful.ensures.lawful plan))

pub loop-line-smaller : goal.loop-line-smaller
loop-line-smaller c =
    let plan = c.args.plan.now in
    let here = there plan c.loop-line.lines.plan c.loop-line.lines.came c.in-Some.line c.loop-line.invariant.plan c.in-Some.ensures.line in
    let within = slice_get_within (serial plan) c.loop-line.lines.came c.in-Some.line here in
    let more = c.in-Some.ensures.some in
    omega (arith, within, more)

pub loop-line-preserved : goal.loop-line-preserved
loop-line-preserved c =
    let plan = c.args.plan.now in
    let here = there plan c.loop-line.lines.plan c.loop-line.lines.came c.in-Some.line c.loop-line.invariant.plan c.in-Some.ensures.line in
    let within = slice_get_within (serial plan) c.loop-line.lines.came c.in-Some.line here in
    let more = c.in-Some.ensures.some in
    record {
      counts = counts_more plan (serial plan) c.loop-line.lines.came c.in-Some.line c.loop-line.sum c.one_more-sum.result here c.loop-line.invariant.counts c.one_more-sum.ensures
          ∙ ap (λ n. summary plan (take n (serial plan)) false) (sym more);
      plan = c.in-Some.ensures.plan ∙ c.loop-line.invariant.plan;
      within = omega (arith, within, more);
    }

pub returns-clause-counts : goal.returns-clause-counts
returns-clause-counts c =
    let plan = c.args.plan.now in
    let all = all_came plan c.loop-line.lines.plan c.loop-line.lines.came c.loop-line.invariant.plan (sym c.in_default.is ∙ c.next.ensures.line) c.loop-line.invariant.within in
    counts_all plan (serial plan) c.loop-line.lines.came c.loop-line.sum all c.loop-line.invariant.counts

pub returns-clause-whole : goal.returns-clause-whole
returns-clause-whole c =
    c.in_default.ensures.none
    ∙ all_came c.args.plan.now c.loop-line.lines.plan c.loop-line.lines.came c.loop-line.invariant.plan (sym c.in_default.is ∙ c.next.ensures.line) c.loop-line.invariant.within

pub returns-clause-plan : goal.returns-clause-plan
returns-clause-plan c = c.next.ensures.plan ∙ c.loop-line.invariant.plan
