-- Format 1 is format 2 behind a line of time 0.
use Rattle.pm_lineread.proofs.Answered.{at1, fault1, from_text1, text1}
use Rattle.pm_lineread.proofs.read_line_by.Goals as goal

pub returns : goal.returns
returns c = record {
  text = text1 c.args.plan.now c.args.bytes.now c.read_line2_by.result c.read_line2_by.ensures.text;
  only = λ line spelled. c.read_line2_by.ensures.only line (from_text1 c.args.plan.now line c.args.bytes.now spelled);
  fault = fault1 c.args.plan.now c.args.bytes.now c.read_line2_by.result c.read_line2_by.ensures.fault;
  at = at1 c.args.plan.now c.args.bytes.now c.read_line2_by.result c.read_line2_by.ensures.at;
}
