use Rattle.std.proofs.Common.{refl}
use Rattle.pm_cmd_ends.specs.Ending.{taking}
use Rattle.pm_cmd_lab.proofs.find.DriverLemmas.{driver_refused, driver_reported}
use Rattle.pm_cmd_lab.proofs.find.driver.write_driver.Goals as goal

pub returns-in_ok-report-in-Ok : goal.returns-in_ok-report-in-Ok
returns-in_ok-report-in-Ok g c =
    driver_reported c.args.file.now c.as_bytes.result.now c.args.bytes.now c.args.bounds c.args.notes c.in-Ok.driver c.in_ok-report-in-Ok.report
    (taking g.O.Sink.taken g.O.Sink.faults c.args.out.now c.write_report.new.out) c.write_report.result c.in-Ok.ensures.ok c.in_ok-report-in-Ok.ensures c.as_bytes.ensures.value c.write_report.ensures

pub returns-in_ok-said-in-Err-Refused : goal.returns-in_ok-said-in-Err-Refused
returns-in_ok-said-in-Err-Refused g c =
    let is_refused = rw c.in-Err-Refused.field-0-is at c.in-Err-Refused.ensures.fault in (
      driver_refused c.args.file.now c.as_bytes-in-Err-Refused.result.now c.args.bytes.now c.args.bounds c.args.notes c.in-Err-Refused.field-0-0 c.in_ok-said-in-Err-Refused.said is_refused c.in_ok-said-in-Err-Refused.ensures
          c.as_bytes-in-Err-Refused.ensures.value,
      refl,
    )
