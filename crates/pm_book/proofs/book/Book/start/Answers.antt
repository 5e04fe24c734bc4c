use Rattle.pm_book.proofs.PageLemmas.{kept_start}
use Rattle.pm_book.proofs.book.Book.start.Goals as goal

pub invariant_of-result : goal.invariant_of-result
invariant_of-result c =
    kept_start c.args.plan c.in-Ok.state c.in-Ok.turns c.none.result.ends c.none.result.limit c.none.result.lines c.in-Ok.ensures.is_of c.in-Ok.ensures.start c.in-Ok.ensures.turns c.none.ensures.limit c.none.ensures.lines
