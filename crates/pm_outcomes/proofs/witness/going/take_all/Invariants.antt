use Rattle.std.proofs.Common.{◌≡◌, reverse, take}
use Rattle.pm_outcomes.proofs.witness.going.take_all.Given as goal

-- so many lines are taken
abbrev pub invariant-loop-line : goal.invariant-loop-line
invariant-loop-line l = record {
  plan : l.book.plan ≡ l.initial.book.plan;
  lines : l.book.lines ≡ reverse (take l.line-index l.lines);
}
