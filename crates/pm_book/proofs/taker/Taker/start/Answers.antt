-- No lines, or none that are kept.
use Rattle.std.proofs.Common.{Option, IfSome, subst, sym}
use Rattle.pm_book.specs.Sheets.{Sheet}
use Rattle.pm_book.specs.Takings.{IsListOf}
use Rattle.pm_book.proofs.TakerLemmas.{lists_none}
use Rattle.pm_book.proofs.taker.Taker.start.Goals as goal
use Rattle.pm_book.proofs.taker.Taker.start.Goals.{then-keeps, else-keeps}

pub invariant_of-result : goal.invariant_of-result
invariant_of-result c =
    let j = c.in-Ok.judge in
    let its = c.in-Ok.ensures in
    let Listed : Option Sheet → Type 0 = λ (o : Option Sheet). IfSome o (IsListOf j) in
    elim c.if-keeps.branch [
      | then-keeps w ↦ subst Listed (sym w.lines-is) (lists_none j c.args.plan w.none.result its.plan its.stands w.none.ensures.lines w.none.ensures.limit)
      | else-keeps w ↦ subst Listed (sym w.lines-is) tt
    ]
