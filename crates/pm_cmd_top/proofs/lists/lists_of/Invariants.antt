use Rattle.std.proofs.Common.{◌≡◌, map, take}
use Rattle.pm_cmd_top.specs.Gathering.{lists}
use Rattle.pm_cmd_top.proofs.lists.lists_of.Given as goal

abbrev pub invariant-loop-book : goal.invariant-loop-book
invariant-loop-book l = map (λ lines. lines.now) l.all.items ≡ lists (take l.book-index l.books)
