use Rattle.std.proofs.Common.{refl}
use Rattle.pm_cmd_ends.specs.Ending.{taking}
use Rattle.pm_cmd_lab.specs.declared.ends.ending.Outcome.TheVariants as outcome
use Rattle.pm_cmd_lab.proofs.find.DriverLemmas.{report_written}
use Rattle.pm_driver_report.specs.declared.report.ReportKind.TheVariants as report
use Rattle.pm_cmd_lab.proofs.find.driver.write_report.Goals as goal

pub returns-in-Clean : goal.returns-in-Clean
returns-in-Clean g c =
    report_written c.args.report report.Clean outcome.Done c.as_slice.result.now (taking g.O.Sink.taken g.O.Sink.faults c.args.out.now c.write_text.new.out) c.write_text.result
    (λ x. refl) c.in-Clean.is c.as_slice.ensures.value c.write_text.ensures

pub returns-in-Found : goal.returns-in-Found
returns-in-Found g c =
    report_written c.args.report report.Found outcome.Found c.as_slice-in-Found.result.now (taking g.O.Sink.taken g.O.Sink.faults c.args.out.now c.write_text-in-Found.new.out) c.write_text-in-Found.result
    (λ x. refl) c.in-Found.is c.as_slice-in-Found.ensures.value c.write_text-in-Found.ensures

pub returns-in-AtLimit : goal.returns-in-AtLimit
returns-in-AtLimit g c =
    report_written c.args.report report.AtLimit outcome.AtLimit c.as_slice-in-AtLimit.result.now (taking g.O.Sink.taken g.O.Sink.faults c.args.out.now c.write_text-in-AtLimit.new.out) c.write_text-in-AtLimit.result
    (λ x. refl) c.in-AtLimit.is c.as_slice-in-AtLimit.ensures.value c.write_text-in-AtLimit.ensures
