use Rattle.std.proofs.Common.{refl}
use Rattle.pm_cmd_ends.specs.Ending.{taking}
use Rattle.pm_cmd_lab.proofs.order.FindingLemmas.{finding_read, finding_refused}
use Rattle.pm_cmd_lab.proofs.order.finding.write_finding.Goals as goal

pub returns-in-Ok : goal.returns-in-Ok
returns-in-Ok g c = finding_read c.args.file.now c.args.bytes.now c.args.asked c.in-Ok.driver (taking g.O.Sink.taken g.O.Sink.faults c.args.out.now c.write_witness.new.out) c.write_witness.result c.in-Ok.ensures.ok c.write_witness.ensures

pub returns-in_ok-said-in-Err-Refused : goal.returns-in_ok-said-in-Err-Refused
returns-in_ok-said-in-Err-Refused g c =
    let is_refused = rw c.in-Err-Refused.field-0-is at c.in-Err-Refused.ensures.fault in (
      finding_refused c.args.file.now c.as_bytes.result.now c.args.bytes.now c.args.asked c.in-Err-Refused.field-0-0 c.in_ok-said-in-Err-Refused.said is_refused c.in_ok-said-in-Err-Refused.ensures
          c.as_bytes.ensures.value,
      refl,
    )
