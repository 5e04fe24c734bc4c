use Rattle.std.proofs.Common.{◌≡◌, length}
use Rattle.pm_cmd_top.proofs.ComesLemmas.{AreDone}
use Rattle.pm_cmd_top.proofs.lists.finish_all.Given as goal

abbrev pub invariant-loop-book : goal.invariant-loop-book
invariant-loop-book l = record {
  can_next : (goal.iterator-loop-book).can_next l.book-iterator;
  is_finite : (goal.iterator-loop-book).is_finite l.book-iterator;
  count : l.book-iterator.rest.len ≡ length l.book-iterator.rest.items;
  done : AreDone l.plan l.fn.books.items l.book-iterator.rest.items l.done.items;
}
