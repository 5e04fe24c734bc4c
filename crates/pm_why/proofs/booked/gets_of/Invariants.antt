use Rattle.std.proofs.Common.{◌≡◌, reverse, take}
use Rattle.pm_why.specs.Kept.{TellsOf}
use Rattle.pm_why.proofs.booked.gets_of.Given as goal

-- what is kept of the device is that of the lines so far
abbrev pub invariant-loop-line : goal.invariant-loop-line
invariant-loop-line l = record {
  told : TellsOf l.gets (reverse (take l.line-index l.lines));
  dev : l.gets.dev ≡ l.fn.dev;
  number : l.number ≡ l.line-index;
}
