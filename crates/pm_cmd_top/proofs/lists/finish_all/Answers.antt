use Rattle.std.proofs.Common.{◌≡◌, ap, arith, length}
use Rattle.std.proofs.lemmas.Option.{MatchOption-at_none, MatchOption-at_some}
use Rattle.pm_cmd_top.specs.Gathering.{Finishes, IsCutOn}
use Rattle.pm_cmd_top.proofs.ComesLemmas.{all_done, next_is_there, none_done, one_cut, one_more_done}
use Rattle.pm_cmd_top.proofs.lists.finish_all.Goals as goal

pub loop-book-init : goal.loop-book-init
loop-book-init c = record {
  can_next = tt;
  is_finite = tt;
  count = omega (arith, c.into_iter-book-iterator.ensures.into_iter_gives.1, c.args.books.ok.0, ap length c.into_iter-book-iterator.ensures.into_iter_gives.0);
  done = none_done c.args.plan.now c.args.books.items c.into_iter-book-iterator.result.rest.items c.new-done.result.items c.into_iter-book-iterator.ensures.into_iter_gives.0 c.new-done.ensures.items;
}

pub finish_island-requires : goal.finish_island-requires
finish_island-requires c =
    let done = c.loop-book.done in
    let lt = next_is_there c.args.plan.now c.args.books.items c.loop-book.book-iterator.rest.items c.next.new.self.rest.items done.items c.in-Some.book c.loop-book.invariant.done c.in-Some.ensures.steps.0 in
    (c.args.count, c.requires.numbering, omega (arith, lt, done.ok.0, c.len-island.ensures, c.requires.one_each))

pub loop-book-preserved : goal.loop-book-preserved
loop-book-preserved c =
    let plan = c.args.plan.now in
    let done = c.loop-book.done in
    let island = c.len-island.result in
    let book = c.in-Some.book in
    let at_end : island ≡ length done.items = omega (arith, done.ok.0, c.len-island.ensures) in
    record {
      can_next = tt;
      is_finite = tt;
      count = omega (arith, c.loop-book.invariant.count, c.in-Some.ensures.steps.1, ap length c.in-Some.ensures.steps.0);
      done = one_more_done plan c.args.books.items c.loop-book.book-iterator.rest.items c.next.new.self.rest.items done.items c.push.new.self.items island book c.in-Some-2.book
          c.loop-book.invariant.done c.in-Some.ensures.steps.0 at_end
          (MatchOption-at_some (IsCutOn plan island book) (Finishes plan island book) c.in-Some-2.book c.in-Some-2.is c.in_ok-book.ensures)
          c.in_ok-push-in-Some-2.ensures.items;
    }

pub returns-in-None-2 : goal.returns-in-None-2
returns-in-None-2 c =
    let plan = c.args.plan.now in
    let done = c.loop-book.done in
    let island = c.len-island.result in
    let book = c.in-Some.book in
    let at_end : island ≡ length done.items = omega (arith, done.ok.0, c.len-island.ensures) in
    one_cut plan c.args.books.items c.loop-book.book-iterator.rest.items c.next.new.self.rest.items done.items island book c.loop-book.invariant.done c.in-Some.ensures.steps.0 at_end
    (MatchOption-at_none (IsCutOn plan island book) (Finishes plan island book) c.in-None-2.is c.in_ok-book.ensures)

pub returns : goal.returns
returns c =
    all_done c.args.plan.now c.args.books.items c.loop-book.book-iterator.rest.items c.loop-book.done.items c.loop-book.invariant.done (omega (arith, c.loop-book.invariant.count, c.in-None.ensures.steps.0))
