use Rattle.std.proofs.Common.{List, ℕ, Err, refl, subst, sym}
use Rattle.std.proofs.lemmas.Result.{err_from_is_err_and}
use Rattle.pm_model.specs.declared.plan.Plan.{Plan}
use Rattle.pm_model.specs.Serial.{serial}
use Rattle.pm_report.specs.Report.{summary, summary_text}
use Rattle.pm_serial.specs.Ends.{IsSerialEnd}
use Rattle.pm_cmd_ends.specs.Coming.{Came, Work, Wrote}
use Rattle.pm_cmd_ends.specs.Ending.{Took, taking}
use Rattle.pm_cmd_top.specs.Commands.{SummaryEnds}
use Rattle.pm_cmd_top.specs.Runs.{is_whole}
use Rattle.pm_cmd_top.proofs.RunLemmas.{not_wrote, wrote}
use Rattle.pm_cmd_top.proofs.SerialLemmas.{serial_run}
use Rattle.pm_cmd_top.proofs.SummaryLemmas.{counts_ended}
use Rattle.pm_cmd_top.proofs.make.count_run.Goals as goal

pub returns-in_err-write_summary : goal.returns-in_err-write_summary
returns-in_err-write_summary g c =
    let p = err_from_is_err_and c.from_residual-in_err-write_summary.result c.from_residual-in_err-write_summary.ensures.1 in
    let f = c.in_err-write_summary.field-0.0 in
    let plan = c.args.plan.now in
    let e = c.end-end.result in
    let bytes = summary_text (summary plan (serial plan) (is_whole e)) in
    let out = taking g.O.Sink.taken g.O.Sink.faults c.args.out.now c.write_summary.new.out in
    let ends = subst (λ (q : Plan). IsSerialEnd q e) c.counted-counts.ensures.plan c.end-end.ensures in
    let run = serial_run plan e (c.serial_lines_are_lawful.ensures.lawful plan) (c.serial_lines_are_lawful.ensures.of_plan plan) c.promises_are_kept.ensures ends in
    let same = counts_ended plan (serial plan) c.counted-counts.result c.is_whole.result (is_whole e) c.counted-counts.ensures.counts c.is_whole.ensures in
    rw (p.1, p.2)
    (not_wrote (SummaryEnds plan) ⊥ e bytes out f (record { end_of = e; run = run; is = refl }) (subst (λ (b : List ℕ). Wrote b (Err f) out) same c.in_err-write_summary.ensures))

pub returns : goal.returns
returns g c =
    let plan = c.args.plan.now in
    let e = c.end-end.result in
    let bytes = summary_text (summary plan (serial plan) (is_whole e)) in
    let out = taking g.O.Sink.taken g.O.Sink.faults c.args.out.now c.write_summary.new.out in
    let ends = subst (λ (q : Plan). IsSerialEnd q e) c.counted-counts.ensures.plan c.end-end.ensures in
    let run = serial_run plan e (c.serial_lines_are_lawful.ensures.lawful plan) (c.serial_lines_are_lawful.ensures.of_plan plan) c.promises_are_kept.ensures ends in
    let same = counts_ended plan (serial plan) c.counted-counts.result c.is_whole.result (is_whole e) c.counted-counts.ensures.counts c.is_whole.ensures in
    subst (λ (work : Work). Came (SummaryEnds plan) work ⊥ out) (sym c.ended.ensures)
    (wrote (SummaryEnds plan) ⊥ e bytes out (record { end_of = e; run = run; is = refl }) (subst (λ (b : List ℕ). Took out b) same c.in_ok-write_summary.ensures))
