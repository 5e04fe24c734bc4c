-- What reading the line from left to right answers is what the contract says.
use Rattle.std.proofs.Common.{Ok, sym, ◌∙◌, ap}
use Rattle.pm_lineread.proofs.Answered.{fault_longest, left_fits, not_text2, read_text2, text2_read}
use Rattle.pm_lineread.proofs.Readers.{one_answer}
use Rattle.pm_lineread.proofs.read_line2_by.Goals as goal

pub overflow_sub-result : goal.overflow_sub-result
overflow_sub-result c = left_fits c.args.plan.now c.args.base c.requires c.args.bytes.now c.in-Err.left (sym c.line.ensures ∙ c.in-Err.is)

pub returns-in-Ok : goal.returns-in-Ok
returns-in-Ok c =
    let read = sym c.line.ensures ∙ c.in-Ok.is in
    record {
      text = read_text2 c.args.plan.now c.args.base c.requires c.args.bytes.now c.in-Ok.line read;
      only = λ line spelled. ap Ok (one_answer _ _ _ read (text2_read c.args.plan.now c.args.base c.requires c.args.bytes.now line spelled));
      fault = tt;
      at = tt;
    }

pub returns-in-Err : goal.returns-in-Err
returns-in-Err c =
    let failed = sym c.line.ensures ∙ c.in-Err.is in
    record {
      text = tt;
      only = λ line spelled. absurd (not_text2 c.args.plan.now c.args.base c.requires c.args.bytes.now c.in-Err.left failed line spelled);
      fault = λ line spelled. not_text2 c.args.plan.now c.args.base c.requires c.args.bytes.now c.in-Err.left failed line spelled;
      at = fault_longest c.args.plan.now c.args.base c.requires c.args.bytes.now c.in-Err.left failed;
    }
