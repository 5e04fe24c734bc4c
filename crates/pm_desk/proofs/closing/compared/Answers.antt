-- What was found wrong of the passes is what is answered.
use Rattle.std.proofs.Common.{Option, IfSome, IfNone, length, subst}
use Rattle.pm_desk.specs.Agreeing.{AllAgree}
use Rattle.pm_desk.specs.Closing.{IsWrong, NoneHasRoom, end_of}
use Rattle.pm_desk.specs.declared.closing.Wrong.{Wrong}
use Rattle.pm_desk.proofs.closing.compared.Goals as goal

pub returns-in-Some-NotFull-clause-err : goal.returns-in-Some-NotFull-clause-err
returns-in-Some-NotFull-clause-err c =
    let book = c.args.closed.book in
    let slips = c.args.passes.now in
    let n = length c.args.plan.now.callers in
    let found = subst (λ (o : Option Wrong). IfSome o (IsWrong slips book n)) c.in-Some-NotFull.is (subst (λ k. IfSome c.in_ok-difference.field-0 (IsWrong slips book k)) c.len-callers.ensures c.in_ok-difference.ensures.some) in
    let wrong = subst (IsWrong slips book n) c.in-Some-NotFull.field-0-is found in
    record { ended = end_of c.args.closed.full; drained = c.requires; agree = wrong.0; first = wrong.1; count = c.line_count-lines.ensures }

pub returns-in-None-clause-ok : goal.returns-in-None-clause-ok
returns-in-None-clause-ok c =
    let book = c.args.closed.book in
    let slips = c.args.passes.now in
    let n = length c.args.plan.now.callers in
    let right = subst (λ (o : Option Wrong). IfNone o (AllAgree slips book.lines n × NoneHasRoom slips book n)) c.in-None.is (subst (λ k. IfNone c.in_ok-difference.field-0 (AllAgree slips book.lines k × NoneHasRoom slips book k)) c.len-callers.ensures c.in_ok-difference.ensures.none) in
    record { drained = c.requires; agree = right.0; limits = right.1 }
