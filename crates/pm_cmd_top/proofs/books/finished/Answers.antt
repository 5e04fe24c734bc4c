use Rattle.std.proofs.Common.{subst}
use Rattle.pm_serial.specs.declared.running.End.TheVariants as end
use Rattle.pm_serial.specs.Ends.{IsEnd}
use Rattle.pm_cmd_top.proofs.ComesLemmas.{comes_to, is_cut}
use Rattle.pm_cmd_top.proofs.books.finished.Goals as goal

pub returns-in-Finished-clause-comes : goal.returns-in-Finished-clause-comes
returns-in-Finished-clause-comes c =
    let mended = c.in_ok-book.ensures in
    comes_to c.args.plan c.args.book c.in_ok-book.book c.drain.new.book mended.plan mended.keeps c.in_ok-drain.ensures.whole

pub returns-in-AtLimit-clause-cut : goal.returns-in-AtLimit-clause-cut
returns-in-AtLimit-clause-cut c =
    let mended = c.in_ok-book.ensures in
    let drained = c.in_ok-drain.ensures in
    let at_limit : IsEnd c.drain.new.book end.AtLimit = subst (IsEnd c.drain.new.book) c.in-AtLimit.is drained.end in
    is_cut c.args.plan c.args.book c.in_ok-book.book c.drain.new.book mended.plan mended.keeps drained.whole drained.goes_on.plan_is at_limit.1
