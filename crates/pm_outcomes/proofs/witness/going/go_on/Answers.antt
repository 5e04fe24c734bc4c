-- There is time for the rest of the run, and it is what one thread makes of the order.
use Rattle.std.proofs.Common.{reverse, sym, subst}
use Rattle.pm_book.specs.Turn.{HasTime}
use Rattle.pm_model.specs.declared.plan.Plan.{Plan}
use Rattle.pm_model.specs.History.{History}
use Rattle.pm_outcomes.proofs.witness.OrderLemmas.{drained, has_time}
use Rattle.pm_outcomes.proofs.witness.going.go_on.Goals as goal

pub drain-requires : goal.drain-requires
drain-requires c =
    let plan = c.args.plan in
    let h = reverse c.args.lines.now in
    let b = c.in_ok-book.ensures in
    let time : HasTime plan h = has_time plan h c.requires.near c.requires.lawful (c.fresh_books_have_time.ensures plan) in
    subst (λ (q : Plan). HasTime q c.in_ok-book.book.lines) (sym b.plan) (subst (λ (l : History). HasTime plan l) (sym b.lines) time)

pub returns-clause-goes_on : goal.returns-clause-goes_on
returns-clause-goes_on c =
    let plan = c.args.plan in
    let b = c.in_ok-book.ensures in
    drained plan (reverse c.args.lines.now) c.in_ok-book.book c.drain.new.book c.in_ok-end.end (c.serial_stops.ensures.finished_line plan) b.plan b.lines c.drain.ensures.goes_on c.in_ok-end.ensures.whole c.in_ok-end.ensures.end
