use Rattle.std.proofs.Common.{◌≡◌, map, reverse, take}
use Rattle.pm_book.specs.Replayed.{IsAfter}
use Rattle.pm_expect.specs.uses.Watching.{watch_of}
use Rattle.pm_expect.proofs.uses.judging.watched.Given as goal

-- the replay and what is known of the uses are those of the lines so far
abbrev pub invariant-loop-line : goal.invariant-loop-line
invariant-loop-line l = record {
  after : IsAfter l.plan l.replay (reverse (take l.line-index l.lines));
  number : l.number ≡ l.line-index;
  known : l.watches.items ≡ map (watch_of l.plan (reverse (take l.line-index l.lines))) l.expected;
}
