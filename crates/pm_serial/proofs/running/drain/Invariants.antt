use Rattle.std.proofs.Common.{◌-◌, length}
use Rattle.pm_serial.specs.Ends.{GoesOn, HasMemory}
use Rattle.pm_serial.proofs.running.drain.Given as goal

-- the book has gone on from where it began, and where it had memory for all lines it still has
abbrev pub invariant-loop-actor : goal.invariant-loop-actor
invariant-loop-actor l = record {
  goes_on : GoesOn l.initial.book l.book;
  memory : HasMemory l.initial.book → HasMemory l.book;
}

-- fewer lines are free
abbrev pub decreases-loop-actor : goal.decreases-loop-actor
decreases-loop-actor l = l.book.plan.lines - length l.book.lines
